-- The checker's machine beside the bare one, before the first report: what every step keeps.
use Prim.Native.Nat.{ℕ, zero, suc, ◌+◌, ◌^◌, ◌*◌, ◌≤◌, ◌<◌}
use mathlib.Core.Path.{◌≡◌, subst}
use mathlib.Core.Bool.{Bool, true, false, cond}
use mathlib.Core.List.{List, [], ◌∷◌}
use native.Mathlib.Omega.{arith}
use native.Mathlib.Nat.{suc_inj}
use lib.ListN.{length, get_or, set, replicate}
use lib.Dec.{eqb}
use lib.Seq.{set-get_or}
use Rattle.rules.specs.Agreement.{Alike}
use Rattle.rules.specs.Bytes.{byte_of}
use Rattle.rules.proofs.Agreement.{alike_self, alike-undefined, alike-wider}
use Rattle.rules.proofs.ByteLaws.{alike-byte, alike-joined, alike-swiden}
use Rattle.image.specs.declared.Width.{Width}
use Rattle.image.specs.declared.Width.TheVariants.{Byte, Half, Word}
use Rattle.image.specs.declared.Widening.{Widening}
use Rattle.image.specs.declared.Widening.TheVariants.{Zero, Sign}
use Rattle.image.proofs.Tests.{both, every-below}
use Rattle.machine.specs.Machine.{undefined_byte, defined_byte, addressable_mark, Parts, World}
use Rattle.machine.specs.Ranges.{is_addressable, all_addressable, loaded, loaded_where, written, filled, stored, stored_where}
use Rattle.machine.specs.Instructions.{bytes_of, widened}
use Rattle.machine.specs.Lists.{output_places, outputs_in}
use Rattle.machine.specs.Bare.{BareParts, Bare}

-- ---- four lists, place by place
pub data Beside (P : ℕ → ℕ → ℕ → ℕ → Type 0) : (bs vs xs ys : List ℕ) → Type 0 where
  none : Beside P [] [] [] []
  more : {a v x y : ℕ} {bs vs xs ys : List ℕ} → P a v x y → Beside P bs vs xs ys → Beside P (a ∷ bs) (v ∷ vs) (x ∷ xs) (y ∷ ys)

module _ {P : ℕ → ℕ → ℕ → ℕ → Type 0} where
  pub beside_at : {bs vs xs ys : List ℕ} → Beside P bs vs xs ys → P 0 0 0 0 → (i : ℕ) → P (get_or bs i 0) (get_or vs i 0) (get_or xs i 0) (get_or ys i 0)
  beside_at none past i = past
  beside_at (more p r) past zero = p
  beside_at (more p r) past (suc i) = beside_at r past i

  -- the four are written at one place
  pub beside-set : {bs vs xs ys : List ℕ} → Beside P bs vs xs ys → (i a v x y : ℕ) → P a v x y → Beside P (set bs i a) (set vs i v) (set xs i x) (set ys i y)
  beside-set none i a v x y q = none
  beside-set (more p r) zero a v x y q = more q r
  beside-set (more p r) (suc i) a v x y q = more p (beside-set r i a v x y q)

  -- the first stays
  pub beside-data : {bs vs xs ys : List ℕ} → Beside P bs vs xs ys → (i v x y : ℕ) → P (get_or bs i 0) v x y → Beside P bs (set vs i v) (set xs i x) (set ys i y)
  beside-data {bs} {vs} {xs} {ys} r i v x y q =
      subst (λ (l : List ℕ). Beside P l (set vs i v) (set xs i x) (set ys i y)) (set-get_or bs i 0) (beside-set r i (get_or bs i 0) v x y q)

  -- the last two stay
  pub beside-shadow : {bs vs xs ys : List ℕ} → Beside P bs vs xs ys → (i a v : ℕ) → P a v (get_or xs i 0) (get_or ys i 0) → Beside P (set bs i a) (set vs i v) xs ys
  beside-shadow {bs} {vs} {xs} {ys} r i a v q =
      subst (λ (l : List ℕ). Beside P (set bs i a) (set vs i v) xs l) (set-get_or ys i 0)
      (subst (λ (l : List ℕ). Beside P (set bs i a) (set vs i v) l (set ys i (get_or ys i 0))) (set-get_or xs i 0)
      (beside-set r i a v (get_or xs i 0) (get_or ys i 0) q))

  -- as many of the same beside two lists of that length
  pub beside-all : (n a v : ℕ) (xs ys : List ℕ) → length xs ≡ n → length ys ≡ n → ((i : ℕ) → P a v (get_or xs i 0) (get_or ys i 0))
      → Beside P (replicate n a) (replicate n v) xs ys
  beside-all zero a v [] [] e e' f = none
  beside-all zero a v [] (y ∷ ys) e e' f = absurd (omega arith)
  beside-all zero a v (x ∷ xs) ys e e' f = absurd (omega arith)
  beside-all (suc n) a v [] ys e e' f = absurd (omega arith)
  beside-all (suc n) a v (x ∷ xs) [] e e' f = absurd (omega arith)
  beside-all (suc n) a v (x ∷ xs) (y ∷ ys) e e' f = more (f 0) (beside-all n a v xs ys (suc_inj e) (suc_inj e') (λ i. f (suc i)))

-- ---- the parts
-- a register's V word, and its data on both machines; the V words stand in the first list, too
abbrev pub WordAlike : (a v x y : ℕ) → Type 0
WordAlike a v x y = Alike 32 v x y

-- V as a program can come to see it: an unaddressable byte counts as undefined
abbrev pub seen_v : (a v : ℕ) → ℕ
seen_v a v = cond (eqb a addressable_mark) v undefined_byte

-- a byte's A and V, and its data on both machines
abbrev pub ByteAlike : (a v x y : ℕ) → Type 0
ByteAlike a v x y = Alike 8 (seen_v a v) x y

pub record PartsAlike (p : Parts) (q : BareParts) : Type 0 where
  pub regs : Beside WordAlike p.regs_v p.regs_v p.regs q.regs
  pub mem : Beside ByteAlike p.mem_a p.mem_v p.mem q.mem
  pub marks : q.marks ≡ p.mem_a

-- the two machines, where the lists have so many output places
pub record InStep (places : ℕ) (w : World) (c : Bare) : Type 0 where
  pub parts : PartsAlike w.parts c.parts
  pub index : c.index ≡ w.counts.index
  pub steps : c.steps ≡ w.counts.steps
  pub outputs : c.outputs ≡ outputs_in w.counts.outputs w.output_list
  pub room : w.counts.outputs ≤ places
  pub places_kept : output_places w.output_list ≡ places

-- ---- one place
pub word-past : Alike 32 0 0 0
word-past = alike_self (omega arith) (omega arith)

pub byte_past : ByteAlike 0 0 0 0
byte_past = alike-undefined 8 (omega arith) (omega arith)

-- a byte with V 255, addressable or not
pub byte-undefined : (a : ℕ) {x y : ℕ} → x < 2 ^ 8 → y < 2 ^ 8 → ByteAlike a undefined_byte x y
byte-undefined a {x} {y} hx hy = go (eqb a addressable_mark)
  where
    go : (t : Bool) → Alike 8 (cond t undefined_byte undefined_byte) x y
    go true = alike-undefined 8 hx hy
    go false = alike-undefined 8 hx hy

-- as many bytes as a load brings make a word, however they are widened
pub few-bytes : (width : Width) → bytes_of width ≤ 4
few-bytes Byte = omega arith
few-bytes Half = omega arith
few-bytes Word = omega arith

widened-alike : (widening : Widening) (n : ℕ) {v x y : ℕ} → n ≤ 4 → Alike (8 * n) v x y → Alike 32 (widened widening n v) (widened widening n x) (widened widening n y)
widened-alike Zero n few a = alike-wider 32 (omega arith) a
widened-alike Sign n few a = alike-swiden n few a

-- ---- ranges of bytes
module _ {bs vs xs ys : List ℕ} (r : Beside ByteAlike bs vs xs ys) where
  pub byte_at : (i : ℕ) → ByteAlike (get_or bs i 0) (get_or vs i 0) (get_or xs i 0) (get_or ys i 0)
  byte_at i = beside_at r byte_past i

  -- an addressable byte
  addressed : (i : ℕ) → is_addressable bs i ≡ true → Alike 8 (get_or vs i 0) (get_or xs i 0) (get_or ys i 0)
  addressed i e = subst (λ (t : Bool). Alike 8 (cond t (get_or vs i 0) undefined_byte) (get_or xs i 0) (get_or ys i 0)) e (byte_at i)

  -- a load of addressable bytes
  pub load-alike : (at : ℕ) (width : Width) (widening : Widening) → all_addressable bs at (bytes_of width) ≡ true
      → Alike 32 (widened widening (bytes_of width) (loaded_where bs vs at (bytes_of width))) (widened widening (bytes_of width) (loaded_where bs xs at (bytes_of width)))
      (widened widening (bytes_of width) (loaded ys at (bytes_of width)))
  load-alike at width widening h =
      widened-alike widening (bytes_of width) (few-bytes width)
      (alike-joined (bytes_of width) _ _ _ (λ k l.
      let e : is_addressable bs (at + k) ≡ true = every-below (λ j. is_addressable bs (at + j)) (bytes_of width) h k l in
      rw e (addressed (at + k) e)))

-- a store to addressable bytes
pub store-alike : {bs vs xs ys : List ℕ} → Beside ByteAlike bs vs xs ys → {u x y : ℕ} → Alike 32 u x y → (at n : ℕ) → all_addressable bs at n ≡ true
    → Beside ByteAlike bs (stored_where bs u vs at n) (stored_where bs x xs at n) (stored y ys at n)
unfolding stored_where written
store-alike r z at zero h = r
store-alike {bs} {vs} {xs} {ys} r {u} {x} {y} z at (suc n) h =
    let e = both (all_addressable bs at n) (is_addressable bs (at + n)) h in
    rw e.1 (beside-data (store-alike r z at n e.0) (at + n) (byte_of n u) (byte_of n x) (byte_of n y) (rw e.1 (alike-byte n z)))

-- OPEN and CLOSE
pub mark-alike : {bs vs xs ys : List ℕ} → Beside ByteAlike bs vs xs ys → (q at n : ℕ) → Beside ByteAlike (filled q bs at n) (filled undefined_byte vs at n) xs ys
unfolding written
mark-alike r q at zero = r
mark-alike r q at (suc n) =
    let rest = mark-alike r q at n in
    let here = byte_at rest (at + n) in
    beside-shadow rest (at + n) q undefined_byte (byte-undefined q here.first here.second)

-- the same defined bytes on both machines
pub data-alike : {bs vs xs ys : List ℕ} → Beside ByteAlike bs vs xs ys → (f : ℕ → ℕ) → ((k : ℕ) → f k < 2 ^ 8) → (at n : ℕ)
    → Beside ByteAlike (filled addressable_mark bs at n) (filled defined_byte vs at n) (written f xs at n) (written f ys at n)
unfolding written
data-alike r f h at zero = r
data-alike r f h at (suc n) = beside-set (data-alike r f h at n) (at + n) addressable_mark defined_byte (f n) (f n) (alike_self (omega arith) (h n))
