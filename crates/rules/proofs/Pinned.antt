-- The pinned cases hold: one test that is computed over the whole table, and a lemma that turns it into the rows' equations.
use Rattle.std.proofs.Common.{◌≡◌, ℕ, Bool, true, false, ◌&&◌, T, eqb, List, [], ◌∷◌, eqb→eq}
use Rattle.rules.specs.Word.{bit, copies}
use Rattle.rules.specs.Actions.{mov_of}
use Rattle.rules.specs.Shadows.{left_of, mov_v}
use Rattle.rules.specs.Operations.{action_of, shadow_of}
use Rattle.rules.specs.Pinned.{Row, does, moves, left, pinned, Holds, AllHold}

-- both tests pass
split : (s t : Bool) → T (s && t) → T s × T t
split true t p = (tt, p)
split false t p = absurd p

equal : (a z b u : ℕ) → T (eqb a z && eqb b u) → (a ≡ z) × (b ≡ u)
equal a z b u t = let p : T (eqb a z) × T (eqb b u) = split (eqb a z) (eqb b u) t in (eqb→eq a z p.0, eqb→eq b u p.1)

abbrev test : Row → Bool
test (does o same x v y w z u) = eqb (action_of o x y) z && eqb (shadow_of o same x v y w) u
test (moves y v z u) = eqb (mov_of y) z && eqb (mov_v v) u
test (left v u) = eqb (left_of v) u

abbrev test_all : List Row → Bool
test_all [] = true
test_all (r ∷ rs) = test r && test_all rs

holds : (r : Row) → T (test r) → Holds r
holds (does o same x v y w z u) t = equal (action_of o x y) z (shadow_of o same x v y w) u t
holds (moves y v z u) t = equal (mov_of y) z (mov_v v) u t
holds (left v u) t = eqb→eq (left_of v) u t

all_hold : (rs : List Row) → T (test_all rs) → AllHold rs
all_hold [] t = tt
all_hold (r ∷ rs) t = let p : T (test r) × T (test_all rs) = split (test r) (test_all rs) t in (holds r p.0, all_hold rs p.1)

pub pinned-hold : AllHold pinned
unfolding action_of shadow_of copies bit
pinned-hold = all_hold pinned tt
