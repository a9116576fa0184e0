-- The proof of the claim: what is refused, whose command is handed on, what is blocked, and what a command carries.
use Prim.Native.Nat.{ℕ, zero, suc, ◌+◌, ◌*◌, ◌^◌, ◌%◌, ◌≤◌, ◌<◌}
use mathlib.Core.Path.{◌≡◌, refl, sym, ap, subst, ◌∙◌}
use mathlib.Core.Logic.{◌⊎◌, inl, inr, ◌↔◌}
use mathlib.Core.Bool.{Bool, true, false, cond, not, ◌||◌}
use mathlib.Core.List.{List, [], ◌∷◌, ◌++◌}
use native.Mathlib.Omega.{arith}
use borrow.Author.Tests.{eq-eqb, le-leb, lt-ltb, eqb-true, ltb-true, leb-true, leb-false, not-false}
use lib.Dec.{T, leb, ltb, eqb}
use lib.ListN.{length, get_or}
use lib.Seq.{get_or-append-add}
use lib.Ieee.{Float, binary32, le, of_bits, to_bits, nan_bits, is_nan}
use lib.Ieee.Bits.{to_bits-of_bits, nan_bits_is}
use Rattle.std.specs.Prelude.{Ok}
use Rattle.image.specs.Format.{ports}
use Rattle.image.proofs.Tests.{apart, both, all_three, every-below, all-every}
use Rattle.machine.specs.Lists.{output_size, output_places}
use Rattle.machine.specs.Calls.{most_outputs, list_ok}
use Rattle.commands.specs.Gates.{gates, lowest, highest_of, in_gate, blocked, command_with, command_of, port_of, rates_of, words_of}
use Rattle.commands.specs.ByBits.{passes_by_bits}
use Rattle.commands.specs.Ports.{port_of_gate}
use Rattle.commands.specs.declared.gates.Gate.{Gate}
use Rattle.commands.specs.Answers.{port_at, value_at, has_port, ports_ok, accepts, answer_of, numbers_of, numbers_for, numbers_at, RateIsNumber, Answer, refused}
use Rattle.commands.specs.Handing.{Acceptable, Between, Carries, HandsOn}
use Rattle.commands.specs.Promises.{CommandPromise}
use Rattle.commands.specs.declared.Command.{Command}
use Rattle.commands.specs.declared.Command.TheVariants.{Blocked}
use Rattle.commands.proofs.ByBits.{by_bits}

-- none of three tests passes
none : (a b c : Bool) → a || b || c ≡ false → (a ≡ false) × (b ≡ false) × (c ≡ false)
none false false c h = (refl, refl, h)
none false true c h = apart h
none true b c h = apart h

-- ---- an output that is not blocked
module _ (port value : ℕ) (passes : blocked port value ≡ false) where
  tests : (leb gates port ≡ false) × (nan_bits binary32 value ≡ false) × (not (in_gate port (of_bits binary32 value)) ≡ false)
  unfolding blocked
  tests = none (leb gates port) (nan_bits binary32 value) (not (in_gate port (of_bits binary32 value))) passes

  -- its port has a gate, its value is a number, and lies in the gate
  has-gate : port < gates
  has-gate = leb-false gates port tests.0

  is_number : nan_bits binary32 value ≡ false
  is_number = tests.1

  kept-bits : value < 2 ^ 32 → to_bits binary32 (of_bits binary32 value) ≡ value
  kept-bits l = to_bits-of_bits binary32 value l (rw (← nan_bits_is binary32 value, is_number) tt)

-- ---- what `command_of` answers
pub no_gate : (port value : ℕ) → gates ≤ port → Blocked port ≡ command_of port value
unfolding command_of blocked
no_gate port value h = rw (le-leb gates port h)

-- of a port that has a gate, by what the gate lets through
module _ (gate : Gate) (port value : ℕ) (at : port_of_gate gate ≡ port) (has : port < gates) (word : value < 2 ^ 32) where
  by-gate : blocked port value ≡ not (passes_by_bits (port_of_gate gate) value)
  by-gate = by_bits port value has word ∙ ap (λ (p : ℕ). not (passes_by_bits p value)) (sym at)

  pub outside : false ≡ passes_by_bits (port_of_gate gate) value → Blocked port ≡ command_of port value
  unfolding command_of
  outside h = rw (by-gate, ← h)

  not-blocked : true ≡ passes_by_bits (port_of_gate gate) value → blocked port value ≡ false
  not-blocked h = by-gate ∙ ap not (sym h)

  -- its bits are no NaN's, so that there is a rate
  pub inside_number : true ≡ passes_by_bits (port_of_gate gate) value → T (not (nan_bits binary32 value))
  inside_number h = rw (is_number port value (not-blocked h)) tt

  pub inside : true ≡ passes_by_bits (port_of_gate gate) value → command_with (port_of_gate gate) (of_bits binary32 value) ≡ command_of port value
  unfolding command_of
  inside h = rw (not-blocked h, at)

-- ---- a command of a port that has a gate
with-port : (port : ℕ) (rate : Float) → port < gates → port_of (command_with port rate) ≡ port
unfolding command_with
with-port zero rate l = refl
with-port (suc zero) rate l = refl
with-port (suc (suc zero)) rate l = refl
with-port (suc (suc (suc port))) rate l = absurd (omega arith)

with-rate : (port : ℕ) (rate : Float) → rates_of (command_with port rate) ≡ rate ∷ []
unfolding command_with
with-rate zero rate = refl
with-rate (suc zero) rate = refl
with-rate (suc (suc port)) rate = refl

-- ---- the numbers of a command are its output's words
pub numbers-kept : (port value : ℕ) → value < 2 ^ 32 → words_of (command_of port value) ≡ port ∷ cond (blocked port value) [] (value ∷ [])
unfolding command_of
numbers-kept port value l = go (blocked port value) refl
  where
    go : (t : Bool) → blocked port value ≡ t → words_of (cond t (Blocked port) (command_with port (of_bits binary32 value))) ≡ port ∷ cond t [] (value ∷ [])
    go true h = refl
    go false h = rw (with-port port (of_bits binary32 value) (has-gate port value h), with-rate port (of_bits binary32 value), kept-bits port value h l)

pub answer-numbers : (outputs : List ℕ) (number : ℕ) → value_at outputs number < 2 ^ 32 → numbers_of (answer_of outputs number) ≡ numbers_at outputs number
unfolding answer_of numbers_at
answer-numbers outputs number l = go (accepts outputs number)
  where
    go : (t : Bool) → numbers_of (cond t (Ok (command_of (port_at outputs number) (value_at outputs number))) refused) ≡ cond t (numbers_for (port_at outputs number) (value_at outputs number)) (13 ∷ [])
    go true = ap (λ (l : List ℕ). 0 ∷ l) (numbers-kept (port_at outputs number) (value_at outputs number) l)
    go false = refl

-- ---- the claim
-- a list that is accepted, by its facts
module _ (outputs : List ℕ) (number : ℕ) where
  acceptable : accepts outputs number ≡ true → Acceptable outputs number
  unfolding accepts ports_ok
  acceptable h =
      let t = all_three (list_ok output_size most_outputs outputs) (ports_ok outputs) (ltb number (output_places outputs)) h in
      let l = both (eqb (length outputs % output_size) 0) (leb (length outputs) (output_size * most_outputs)) t.0 in
      record {
        even = eqb-true (length outputs % output_size) 0 l.0;
        most = leb-true (length outputs) (output_size * most_outputs) l.1;
        each_port = λ k b. ltb-true (port_at outputs k) ports (every-below (has_port outputs) (output_places outputs) t.1 k b);
        within = ltb-true number (output_places outputs) t.2;
      }

  accepted : Acceptable outputs number → accepts outputs number ≡ true
  unfolding accepts ports_ok
  accepted a =
      rw (
        eq-eqb (length outputs % output_size) 0 a.even,
        le-leb (length outputs) (output_size * most_outputs) a.most,
        all-every (has_port outputs) (output_places outputs) (λ k b. lt-ltb (port_at outputs k) ports (a.each_port k b)),
        lt-ltb number (output_places outputs) a.within,
      )

-- ---- the clauses
module _ (outputs : List ℕ) (number : ℕ) where
  abbrev handed : Answer
  handed = Ok (command_of (port_at outputs number) (value_at outputs number))

  refused-exactly : (answer_of outputs number ≡ refused) ↔ (Acceptable outputs number → ⊥)
  unfolding answer_of
  refused-exactly = (λ e a. told (accepts outputs number) e (accepted outputs number a), go (accepts outputs number) refl)
    where
      told : (t : Bool) → cond t handed refused ≡ refused → t ≡ true → ⊥
      told true e h = let z : ◌≡◌ {A = ℕ} 0 1 = cc in omega arith
      told false e h = apart (sym h)

      go : (t : Bool) → accepts outputs number ≡ t → (Acceptable outputs number → ⊥) → cond t handed refused ≡ refused
      go true h never = absurd (never (acceptable outputs number h))
      go false h never = refl

-- a command of a port that has a gate is not blocked
with-not-blocked : (port : ℕ) (rate : Float) (p : ℕ) → command_with port rate ≡ Blocked p → ⊥
with-not-blocked port rate p e = let q : rate ∷ [] ≡ [] = sym (with-rate port rate) ∙ ap rates_of e in let z : ◌≡◌ {A = ℕ} 1 0 = ap length q in omega arith

module _ (port value : ℕ) where
  abbrev its-rate : Float
  its-rate = of_bits binary32 value

  between : in_gate port its-rate ≡ true → Between port its-rate
  unfolding in_gate
  between h = let b = both (le lowest its-rate) (le its-rate (highest_of port)) h in record { least = b.0; greatest = b.1 }

  in-gate : Between port its-rate → in_gate port its-rate ≡ true
  unfolding in_gate
  in-gate b = rw (b.least, b.greatest)

  abbrev Causes : Type 0
  Causes = (gates ≤ port) ⊎ (is_nan its-rate ≡ true) ⊎ (Between port its-rate → ⊥)

  causes : blocked port value ≡ true → Causes
  unfolding blocked
  causes h = go (leb gates port) (nan_bits binary32 value) (in_gate port its-rate) refl refl refl h
    where
      go : (a b c : Bool) → leb gates port ≡ a → nan_bits binary32 value ≡ b → in_gate port its-rate ≡ c → a || b || not c ≡ true → Causes
      go true b c ha hb hc t = inl (leb-true gates port ha)
      go false true c ha hb hc t = inr (inl (sym (nan_bits_is binary32 value) ∙ hb))
      go false false true ha hb hc t = apart (sym t)
      go false false false ha hb hc t = inr (inr (λ b. apart (sym (in-gate b) ∙ hc)))

  no-causes : blocked port value ≡ false → Causes → ⊥
  no-causes h (inl g) = let l = has-gate port value h in omega arith
  no-causes h (inr (inl n)) = apart (sym n ∙ sym (nan_bits_is binary32 value) ∙ is_number port value h)
  no-causes h (inr (inr out)) = out (between (not-false _ (tests port value h).2))

  blocked-exactly : (command_of port value ≡ Blocked port) ↔ Causes
  unfolding command_of
  blocked-exactly = (go (blocked port value) refl, by (blocked port value) refl)
    where
      go : (t : Bool) → blocked port value ≡ t → cond t (Blocked port) (command_with port its-rate) ≡ Blocked port → Causes
      go true h e = causes h
      go false h e = absurd (with-not-blocked port its-rate port e)

      by : (t : Bool) → blocked port value ≡ t → Causes → cond t (Blocked port) (command_with port its-rate) ≡ Blocked port
      by true h c = refl
      by false h c = absurd (no-causes h c)

  carries : value < 2 ^ 32 → (rate : Float) → rates_of (command_of port value) ≡ rate ∷ [] → Carries port value rate
  unfolding command_of
  carries l rate = go (blocked port value) refl
    where
      go : (t : Bool) → blocked port value ≡ t → rates_of (cond t (Blocked port) (command_with port its-rate)) ≡ rate ∷ [] → Carries port value rate
      go true h e = absurd (let z : ◌≡◌ {A = ℕ} 0 1 = ap length e in omega arith)
      go false h e =
          let q : its-rate ≡ rate = cc (with-rate port its-rate) in
          subst (Carries port value) q
          (record {
            same_port = ap (λ (words : List ℕ). get_or words 0 0) (numbers-kept port value l);
            bits = kept-bits port value h l;
            is_number = sym (nan_bits_is binary32 value) ∙ is_number port value h;
            between = between (not-false _ (tests port value h).2);
          })

handed-exactly : (before after : List ℕ) (port value number : ℕ) → length before ≡ output_size * number
    → Acceptable (before ++ (port ∷ value ∷ after)) number → answer_of (before ++ (port ∷ value ∷ after)) number ≡ Ok (command_of port value)
unfolding answer_of
handed-exactly before after port value number e a =
    let first : port_at (before ++ (port ∷ value ∷ after)) number ≡ port = ap (λ (k : ℕ). get_or (before ++ (port ∷ value ∷ after)) k 0) (omega arith) ∙ get_or-append-add before (port ∷ value ∷ after) 0 0 in
    let second : value_at (before ++ (port ∷ value ∷ after)) number ≡ value = ap (λ (k : ℕ). get_or (before ++ (port ∷ value ∷ after)) k 0) (omega arith) ∙ get_or-append-add before (port ∷ value ∷ after) 1 0 in
    rw (accepted (before ++ (port ∷ value ∷ after)) number a, first, second)

pub hands_on : HandsOn
hands_on = record { refuses = refused-exactly; hands = handed-exactly; blocks = blocked-exactly; carries = carries; passes_by_bits = by_bits }

-- ---- what `command` answers
module _ (outputs : List ℕ) (number : ℕ) (words : (i : ℕ) → get_or outputs i 0 < 2 ^ 32) where
  word : value_at outputs number < 2 ^ 32
  word = words (output_size * number + 1)

  rate-number : RateIsNumber (answer_of outputs number)
  unfolding answer_of
  rate-number = go (accepts outputs number)
    where
      go : (t : Bool) → RateIsNumber (cond t (handed outputs number) refused)
      go true rate e = (carries (port_at outputs number) (value_at outputs number) word rate e).is_number
      go false rate e = absurd (let z : ◌≡◌ {A = ℕ} 0 1 = ap length e in omega arith)

  promised : (r : Answer) → r ≡ answer_of outputs number → CommandPromise outputs number r
  promised r e =
      record {
        answer = e;
        numbers = ap numbers_of e ∙ answer-numbers outputs number word;
        rate = subst RateIsNumber (sym e) rate-number;
      }

  pub refuses : accepts outputs number ≡ false → CommandPromise outputs number refused
  unfolding answer_of
  refuses h = promised refused (rw h)

  pub hands : (command : Command) → accepts outputs number ≡ true → command ≡ command_of (port_at outputs number) (value_at outputs number) → CommandPromise outputs number (Ok command)
  unfolding answer_of
  hands command h e = promised (Ok command) (rw (h, e))
