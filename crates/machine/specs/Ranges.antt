-- Ranges of bytes, over any number of them: which are addressable, what is loaded from them, what is written to them.
-- Each recurs over how many bytes are done, the lowest first.
use Rattle.std.specs.Prelude.{ℕ, zero, suc, ◌+◌, Bool, cond, List, get_or, set, eqb}
use Rattle.rules.specs.Bytes.{byte_of, joined}
use Rattle.image.specs.Tests.{every}
use Rattle.machine.specs.Machine.{addressable_mark}

-- The byte at an address is addressable if its A byte says so. There are M A bytes, so that one at M or beyond is not.
abbrev pub is_addressable : List ℕ → ℕ → Bool
is_addressable A i = eqb (get_or A i 0) addressable_mark

-- all n bytes from an address on
abbrev pub all_addressable : List ℕ → (at n : ℕ) → Bool
all_addressable A at n = every (λ k. is_addressable A (at + k)) n

-- the number of the n bytes from an address on, the lowest first
abbrev pub loaded : List ℕ → (at n : ℕ) → ℕ
loaded l at n = joined n (λ k. get_or l (at + k) 0)

-- the same, with 0 for each unaddressable byte
abbrev pub loaded_where : (A l : List ℕ) (at n : ℕ) → ℕ
loaded_where A l at n = joined n (λ k. cond (is_addressable A (at + k)) (get_or l (at + k) 0) 0)

-- the n bytes from an address on become f 0, f 1, ..
unfoldable pub written : (ℕ → ℕ) → List ℕ → (at n : ℕ) → List ℕ
written f l at zero = l
written f l at (suc n) = set (written f l at n) (at + n) (f n)

abbrev pub filled : ℕ → List ℕ → (at n : ℕ) → List ℕ
filled x = written (λ k. x)

-- the low n bytes of x, stored from an address on
abbrev pub stored : ℕ → List ℕ → (at n : ℕ) → List ℕ
stored x = written (λ k. byte_of k x)

-- the same, where a byte is addressable
unfoldable pub stored_where : List ℕ → ℕ → List ℕ → (at n : ℕ) → List ℕ
stored_where A x l at zero = l
stored_where A x l at (suc n) = cond (is_addressable A (at + n)) (set (stored_where A x l at n) (at + n) (byte_of n x)) (stored_where A x l at n)
