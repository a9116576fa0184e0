-- The theorem: the alarms are real (02, L14). A sound rule calls every varying bit undefined, and a bit that a rule of the claim calls undefined varies.
use Rattle.std.proofs.Common.{◌≡◌, ℕ, ◌^◌, ◌<◌, false, eqb, sym, refl, ◌∙◌, ⊎_elim, true≢false, arith}
use Rattle.rules.specs.Word.{bit}
use Rattle.rules.specs.Actions.{mov_of, shl_of, eq_of}
use Rattle.rules.specs.Shadows.{Rule, mov_v, ltu_v}
use Rattle.rules.specs.Operations.{action_of, shadow_of}
use Rattle.rules.specs.Agreement.{Agree, Sound}
use Rattle.rules.specs.Alarms.{Varies, ResultVaries, Exact, Claimed, eq, shl, operation_of, AnyWord, Covered, Real, MovReal}
use Rattle.rules.proofs.Bits.{zero-or-one}
use Rattle.rules.proofs.Compare.{test-sound}
use Rattle.rules.proofs.Alarms.{mov-varies, undefined-varies}
use Rattle.rules.proofs.Sound.{mov-sound, sound}

-- ---- the shared fact: where every choice agrees with the data in each defined bit, a bit that varies is undefined
pub varies-undefined : {C : Type 0} {result : C → ℕ} (u z i : ℕ) → ((c : C) → Agree u z (result c)) → Varies C result i → bit i u ≡ 1
unfolding Agree
varies-undefined u z i agree t =
    ⊎_elim
    (λ (d : bit i u ≡ 0). absurd (t.differ (sym (agree t.one i d) ∙ agree t.other i d)))
    (λ (o : bit i u ≡ 1). o)
    (zero-or-one i u)

-- ---- the theorem
pub mov-real : MovReal
unfolding MovReal
mov-real y w i hy hw = (mov-varies i hy hw, varies-undefined (mov_v w) (mov_of y) i (λ c. (mov-sound c.alike).agree))

pub real : (o : Claimed) → Real o
unfolding Real Exact Sound
real o x v y w i hx hv hy hw k = (
  undefined-varies o i hx hv hy hw k,
  varies-undefined (shadow_of (operation_of o) false x v y w) (action_of (operation_of o) x y) i
      (λ c. (sound (operation_of o) false x v c.0.word y w c.1.word (λ e. absurd (true≢false (sym e))) c.0.alike c.1.alike).agree),
)

-- ---- that it says something
-- the action alone fixes the V bits: there are no two exact rules
pub exact-only : (f : ℕ → ℕ → ℕ) (rule other : Rule) (W : ℕ → Type 0) → Exact f rule W → Exact f other W
    → (x v y w i : ℕ) → x < 2 ^ 32 → v < 2 ^ 32 → y < 2 ^ 32 → w < 2 ^ 32 → W w → bit i (rule false x v y w) ≡ bit i (other false x v y w)
unfolding Exact
exact-only f rule other W p q x v y w i hx hv hy hw k =
    both-set (rule false x v y w) (other false x v y w)
    (λ o. (q x v y w i hx hv hy hw k).1 ((p x v y w i hx hv hy hw k).0 o))
    (λ o. (p x v y w i hx hv hy hw k).1 ((q x v y w i hx hv hy hw k).0 o))
  where
    both-set : (a b : ℕ) → (bit i a ≡ 1 → bit i b ≡ 1) → (bit i b ≡ 1 → bit i a ≡ 1) → bit i a ≡ bit i b
    both-set a b there back =
        ⊎_elim
        (λ (z : bit i a ≡ 0). ⊎_elim (λ (u : bit i b ≡ 0). z ∙ sym u) (λ (o : bit i b ≡ 1). back o ∙ sym o) (zero-or-one i b))
        (λ (o : bit i a ≡ 1). o ∙ sym (there o))
        (zero-or-one i a)

-- pinned cases of EQ (02, L4): where nothing but an undefined bit can tell the words apart the answer varies; where bit 0, which is defined, tells them apart it does not
pub unsettled-varies : ResultVaries eq_of 0 0x80 0 0 0
unfolding Real Exact Covered operation_of shadow_of action_of bit
unsettled-varies = (real eq 0 0x80 0 0 0 (omega arith) (omega arith) (omega arith) (omega arith) tt).0 refl

pub settled-stays : ResultVaries eq_of 1 0x80 0 0 0 → ⊥
unfolding Real Exact Covered operation_of shadow_of action_of bit
settled-stays t = omega (arith, (real eq 1 0x80 0 0 0 (omega arith) (omega arith) (omega arith) (omega arith) tt).1 t)

-- of SHL (01): nothing moves into the places that are left free
pub vacated-stays : ResultVaries shl_of 0x81 0x81 4 0 0 → ⊥
unfolding Real Exact Covered operation_of shadow_of action_of bit
vacated-stays t = omega (arith, (real shl 0x81 0x81 4 0 0 (omega arith) (omega arith) (omega arith) (omega arith) refl).1 t)

-- soundness alone would not do: 01's own rule for EQ, which LTU keeps, is sound for it, and not exact
pub first-rule-sound : Sound eq_of ltu_v
first-rule-sound = test-sound eqb

pub first-rule-inexact : Exact eq_of ltu_v AnyWord → ⊥
unfolding Exact bit
first-rule-inexact e = settled-stays ((e 1 0x80 0 0 0 (omega arith) (omega arith) (omega arith) (omega arith) tt).0 refl)
