-- Parts of a list, and what is read from one.
use Prim.Native.Nat.{ℕ, zero, suc, ◌+◌, ◌-◌, ◌≤◌}
use mathlib.Core.Path.{◌≡◌, sym, ◌∙◌, ap, subst}
use mathlib.Core.List.{List, [], ◌∷◌}
use native.Mathlib.Omega.{arith}
use lib.ListN.{length, take, drop, length-drop, drop_of_length-le}
use lib.Seq.{take_all, take-nil, length-take-le, get_or-drop}
use Rattle.image.specs.Words.{Bytes}
use Rattle.image.specs.Format.{part_of}

-- the rest of a list, taken whole
pub rest-whole : (s : List ℕ) (at : ℕ) → part_of s at (length s - at) ≡ drop at s
rest-whole s at = take_all (length s - at) (drop at s) (omega (arith, length-drop at s))

-- there is nothing past the end
pub part-past : (s : List ℕ) (at size : ℕ) → length s ≤ at → part_of s at size ≡ []
part-past s at size h = ap (take size) (drop_of_length-le s h) ∙ take-nil size

-- a part that is longer than the rest is the rest
pub part-rest : (s : List ℕ) (at size : ℕ) → length (part_of s at (length s - at)) ≤ size → part_of s at size ≡ part_of s at (length s - at)
part-rest s at size h = take_all size (drop at s) (subst (λ (t : List ℕ). length t ≤ size) (rest-whole s at) h) ∙ sym (rest-whole s at)

pub length_part : (s : List ℕ) (at size : ℕ) → at + size ≤ length s → length (part_of s at size) ≡ size
length_part s at size h = length-take-le size (drop at s) (omega (arith, length-drop at s))

-- a part of bytes holds bytes
bytes_take : (n : ℕ) (s : List ℕ) → Bytes s → Bytes (take n s)
bytes_take zero s b k = omega arith
bytes_take (suc n) [] b k = b k
bytes_take (suc n) (x ∷ s) b zero = b 0
bytes_take (suc n) (x ∷ s) b (suc k) = bytes_take n s (λ j. b (suc j)) k

pub bytes_drop : (n : ℕ) (s : List ℕ) → Bytes s → Bytes (drop n s)
bytes_drop n s b k = rw get_or-drop (b (n + k))

pub bytes-part : (s : List ℕ) (at size : ℕ) → Bytes s → Bytes (part_of s at size)
bytes-part s at size b = bytes_take size (drop at s) (bytes_drop at s b)
