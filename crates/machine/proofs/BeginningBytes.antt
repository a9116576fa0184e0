-- What each byte gets at the beginning (01, Beginning): the filled ones the image's data, A 1 and V 0; those of kind 2 A 1 and V 255; all others A 0
-- and V 255. Where the image gives no data, the data is untouched.
use Prim.Native.Nat.{ℕ, zero, suc, ◌+◌, ◌≤◌, ◌<◌}
use mathlib.Core.Path.{ap, ◌≡◌, refl, subst, ◌∙◌}
use mathlib.Core.Logic.{◌⊎◌, inl, inr, ⊎_elim}
use mathlib.Core.Bool.{Bool, true, false, cond}
use mathlib.Core.List.{List}
use native.Mathlib.Omega.{arith}
use native.Mathlib.Nat.{eq-or-lt_of_le}
use lib.ListN.{length, get_or, replicate, length-replicate, get_or-replicate}
use borrow.Author.Tests.{eq-eqb, ne_eqb}
use Rattle.rules.proofs.Bits.{lt-or-ge}
use Rattle.image.specs.Format.{field_m, field_r}
use Rattle.image.specs.Regions.{filled_kind, has_bytes, undefined_kind, region_at, end_of, filled_sum}
use Rattle.image.specs.Accepted.{Accepted}
use Rattle.image.proofs.AcceptedImage.{regions-apart}
use Rattle.machine.specs.Machine.{undefined_byte, defined_byte, addressable_mark, unaddressable_mark}
use Rattle.machine.specs.Ranges.{written, filled}
use Rattle.machine.specs.Beginning.{is_filled, lay_data, laid, regions_of, data_of, begun_memory, begun_v, begun_a}
use Rattle.machine.proofs.Places.{length-written, written-there, written-elsewhere}

-- ---- a place of what was laid
-- place x is left alone by a region's writing
abbrev Misses : (ℕ → List ℕ → List ℕ) → (x i : ℕ) → Type 0
Misses lay x i = (l : List ℕ) → get_or (lay i l) x 0 ≡ get_or l x 0

-- it keeps what it had, if every region misses it
laid-missed : (lay : ℕ → List ℕ → List ℕ) (x count : ℕ) (l : List ℕ) → ((j : ℕ) → j < count → Misses lay x j) → get_or (laid lay count l) x 0 ≡ get_or l x 0
unfolding laid
laid-missed lay x zero l h = refl
laid-missed lay x (suc count) l h = h count (omega arith) (laid lay count l) ∙ laid-missed lay x count l (λ j q. h j (omega arith))

-- writing keeps the length
abbrev Keeping : (ℕ → List ℕ → List ℕ) → Type 0
Keeping lay = (i : ℕ) (l : List ℕ) → length (lay i l) ≡ length l

laid-length : (lay : ℕ → List ℕ → List ℕ) → Keeping lay → (count : ℕ) (l : List ℕ) → length (laid lay count l) ≡ length l
unfolding laid
laid-length lay keeps zero l = refl
laid-length lay keeps (suc count) l = keeps count (laid lay count l) ∙ laid-length lay keeps count l

-- it has what region i wrote there, if the later ones miss it
laid-hit : (lay : ℕ → List ℕ → List ℕ) → Keeping lay → (x y m i count : ℕ) (l : List ℕ) → length l ≡ m → i < count
    → ((k : List ℕ) → length k ≡ m → get_or (lay i k) x 0 ≡ y)
    → ((j : ℕ) → i < j → j < count → Misses lay x j)
    → get_or (laid lay count l) x 0 ≡ y
unfolding laid
laid-hit lay keeps x y m i zero l e h hit missed = absurd (omega arith)
laid-hit lay keeps x y m i (suc count) l e h hit missed =
    ⊎_elim
    (λ (q : i ≡ count). subst (λ (j : ℕ). get_or (lay j (laid lay count l)) x 0 ≡ y) q (hit (laid lay count l) (laid-length lay keeps count l ∙ e)))
    (λ (q : i < count). missed count q (omega arith) (laid lay count l) ∙ laid-hit lay keeps x y m i count l e q hit (λ j a b. missed j a (omega arith)))
    (eq-or-lt_of_le (let q : i ≤ count = omega arith in q))

-- ---- of an accepted image
-- byte k of region i has this address
abbrev pub address_in : (s : List ℕ) (i k : ℕ) → ℕ
address_in s i k = (region_at (regions_of s) i).start + k

-- an address lies outside region j
abbrev pub Outside : (s : List ℕ) (x j : ℕ) → Type 0
Outside s x j = (x < (region_at (regions_of s) j).start) ⊎ (end_of (region_at (regions_of s) j) ≤ x)

-- data, V and A of a byte
pub record Begun (s mem : List ℕ) (x d v mark : ℕ) : Type 0 where
  pub holds : get_or (begun_memory s mem) x 0 ≡ d
  pub shadow : get_or (begun_v s) x 0 ≡ v
  pub marked : get_or (begun_a s) x 0 ≡ mark

module _ (s mem : List ℕ) (a : Accepted s) (size : length mem ≡ field_m s) where
  -- the regions that are not i miss its bytes
  before : (i j k : ℕ) → j < i → i < field_r s → Outside s (address_in s i k) j
  before i j k l h = inr (omega (arith, regions-apart s a j i l h))

  later : (i j k : ℕ) → i < j → j < field_r s → k < (region_at (regions_of s) i).size → Outside s (address_in s i k) j
  later i j k l h q = inl (omega (arith, regions-apart s a i j l h))

  -- ---- V bits and A bits: each region writes one value
  module _ (value : ℕ → ℕ) where
    abbrev Fills : ℕ → List ℕ → List ℕ
    Fills i l = filled (value i) l (region_at (regions_of s) i).start (region_at (regions_of s) i).size

    fills-keep : Keeping Fills
    fills-keep i l = length-written _ l _ _

    fills-length : (x : ℕ) → length (laid Fills (field_r s) (replicate (field_m s) x)) ≡ field_m s
    fills-length x = laid-length Fills fills-keep (field_r s) (replicate (field_m s) x) ∙ length-replicate (field_m s) x

    fills-hit : (x i k : ℕ) → i < field_r s → k < (region_at (regions_of s) i).size
        → get_or (laid Fills (field_r s) (replicate (field_m s) x)) (address_in s i k) 0 ≡ value i
    fills-hit x i k h q =
        laid-hit Fills fills-keep (address_in s i k) (value i) (field_m s) i (field_r s) (replicate (field_m s) x) (length-replicate (field_m s) x) h
        (λ l e. written-there _ l _ _ k q (rw e (a.regions i h).within))
        (λ j lo hi l. written-elsewhere _ l _ _ (address_in s i k) (later i j k lo hi q))

    fills-missed : (x y : ℕ) → y < field_m s → ((j : ℕ) → j < field_r s → Outside s y j) → get_or (laid Fills (field_r s) (replicate (field_m s) x)) y 0 ≡ x
    fills-missed x y l out =
        laid-missed Fills y (field_r s) (replicate (field_m s) x) (λ j h k. written-elsewhere _ k _ _ y (out j h)) ∙ get_or-replicate (field_m s) y x 0 l

  -- ---- data: a filled region writes its own
  copied : ℕ → List ℕ → List ℕ
  copied i l = written (λ k. get_or (data_of s) (filled_sum (regions_of s) i + k) 0) l (region_at (regions_of s) i).start (region_at (regions_of s) i).size

  data-keeps : Keeping (lay_data (regions_of s) (data_of s))
  unfolding copied
  data-keeps i l = go (is_filled (region_at (regions_of s) i))
    where
      go : (t : Bool) → length (cond t (copied i l) l) ≡ length l
      go true = length-written _ l _ _
      go false = refl

  data-misses : (x j : ℕ) → Outside s x j → Misses (lay_data (regions_of s) (data_of s)) x j
  unfolding copied
  data-misses x j out l = go (is_filled (region_at (regions_of s) j))
    where
      go : (t : Bool) → get_or (cond t (copied j l) l) x 0 ≡ get_or l x 0
      go true = written-elsewhere _ l _ _ x out
      go false = refl

  -- ---- no buffer changes its length
  pub length-memory : length (begun_memory s mem) ≡ field_m s
  unfolding begun_memory
  length-memory = laid-length (lay_data (regions_of s) (data_of s)) data-keeps (field_r s) mem ∙ size

  pub length-V : length (begun_v s) ≡ field_m s
  unfolding begun_v
  length-V = fills-length _ undefined_byte

  pub length-A : length (begun_a s) ≡ field_m s
  unfolding begun_a
  length-A = fills-length _ unaddressable_mark

  -- ---- the three sentences
  pub begun-filled : (i k : ℕ) → i < field_r s → (region_at (regions_of s) i).kind ≡ filled_kind → k < (region_at (regions_of s) i).size
      → Begun s mem (address_in s i k) (get_or (data_of s) (filled_sum (regions_of s) i + k) 0) defined_byte addressable_mark
  unfolding begun_memory begun_v begun_a
  begun-filled i k h kind q =
      let is-filled : is_filled (region_at (regions_of s) i) ≡ true = ap has_bytes kind in
      record {
        holds =
            laid-hit (lay_data (regions_of s) (data_of s)) data-keeps (address_in s i k) _ (field_m s) i (field_r s) mem size h
            (λ l e. rw is-filled (written-there _ l _ _ k q (rw e (a.regions i h).within)))
            (λ j lo hi. data-misses (address_in s i k) j (later i j k lo hi q));
        shadow = fills-hit _ undefined_byte i k h q ∙ rw is-filled;
        marked = fills-hit _ unaddressable_mark i k h q;
      }

  pub begun-undefined : (i k : ℕ) → i < field_r s → (region_at (regions_of s) i).kind ≡ undefined_kind → k < (region_at (regions_of s) i).size
      → Begun s mem (address_in s i k) (get_or mem (address_in s i k) 0) undefined_byte addressable_mark
  unfolding begun_memory begun_v begun_a
  begun-undefined i k h kind q =
      let not-filled : is_filled (region_at (regions_of s) i) ≡ false = ap has_bytes kind in
      record {
        holds =
            laid-missed (lay_data (regions_of s) (data_of s)) (address_in s i k) (field_r s) mem
            (λ j g. ⊎_elim
            (λ (l : j < i). data-misses (address_in s i k) j (before i j k l h))
            (λ (l : i ≤ j). ⊎_elim
            (λ (e : i ≡ j). subst (Misses (lay_data (regions_of s) (data_of s)) (address_in s i k)) e (λ m. rw not-filled))
            (λ (l' : i < j). data-misses (address_in s i k) j (later i j k l' g q))
            (eq-or-lt_of_le l))
            (lt-or-ge j i));
        shadow = fills-hit _ undefined_byte i k h q ∙ rw not-filled;
        marked = fills-hit _ unaddressable_mark i k h q;
      }

  pub begun-outside : (x : ℕ) → x < field_m s → ((j : ℕ) → j < field_r s → Outside s x j) → Begun s mem x (get_or mem x 0) undefined_byte unaddressable_mark
  unfolding begun_memory begun_v begun_a
  begun-outside x l out =
      record {
        holds = laid-missed (lay_data (regions_of s) (data_of s)) x (field_r s) mem (λ j g. data-misses x j (out j g));
        shadow = fills-missed _ undefined_byte x l out;
        marked = fills-missed _ unaddressable_mark x l out;
      }
