-- Laws of a run, for a machine of any kind: it halts here, or it goes on by one step; a budget of one more is one step more; a run
-- that is continued is one longer run. So what a run with budget j leaves is the state after its first j steps, or where it ended before.
use Prim.Native.Nat.{ℕ, zero, suc, ◌+◌, ◌-◌, ◌<◌}
use mathlib.Core.Path.{◌≡◌, refl, sym, ap, subst, ◌∙◌}
use native.Mathlib.Omega.{arith}
use native.Mathlib.Nat.{suc-add}
use Rattle.machine.specs.Runs.{Ended, ended, run_on}

module _ {State : Type 0} (reason : ℕ → State → ℕ) (next : State → State) where
  pub halts : (left r : ℕ) (s : State) → reason left s ≡ suc r → run_on reason next left s ≡ ended (suc r) s
  unfolding run_on
  halts zero r s e = rw e
  halts (suc left) r s e = rw (e, run_on)

  pub goes : (left : ℕ) (s : State) → reason (suc left) s ≡ 0 → run_on reason next (suc left) s ≡ run_on reason next left (next s)
  unfolding run_on
  goes left s e = rw (e, run_on)

  -- as a loop counts: some budget is left, and then one less
  pub goes-on : (left : ℕ) (s t : State) → 0 < left → reason left s ≡ 0 → t ≡ next s → run_on reason next left s ≡ run_on reason next (left - 1) t
  goes-on zero s t h e q = absurd (omega arith)
  goes-on (suc left) s t h e q = goes left s e ∙ rw (let z : suc left - 1 ≡ left = omega arith in z, q)

  -- What holds of a run that ends here, and is carried over by a step, holds of every run.
  module _ (Q : ℕ → State → Ended State → Type 0)
      (here : (left r : ℕ) (s : State) → reason left s ≡ suc r → Q left s (ended (suc r) s))
      (spent : (s : State) → reason 0 s ≡ 0 → Q 0 s (ended 0 s))
      (step : (left : ℕ) (s : State) → reason (suc left) s ≡ 0 → Q left (next s) (run_on reason next left (next s)) → Q (suc left) s (run_on reason next left (next s))) where
    pub every-run : (left : ℕ) (s : State) → Q left s (run_on reason next left s)
    unfolding run_on
    every-run zero s = go (reason 0 s) refl
      where
        go : (r : ℕ) → reason 0 s ≡ r → Q 0 s (ended (reason 0 s) s)
        go zero e = rw e (spent s e)
        go (suc r) e = rw e (here 0 r s e)
    every-run (suc left) s = go (every-run left (next s)) (reason (suc left) s) refl
      where
        go : Q left (next s) (run_on reason next left (next s)) → (r : ℕ) → reason (suc left) s ≡ r → Q (suc left) s (run_on reason next (suc left) s)
        go rest zero e = subst (Q (suc left) s) (sym (goes left s e)) (step left s e rest)
        go rest (suc r) e = subst (Q (suc left) s) (sym (halts (suc left) r s e)) (here (suc left) r s e)

  -- what is left of the budget does not matter to the reason, as long as something is
  abbrev pub Steady : Type 0
  Steady = (j k : ℕ) (s : State) → reason (suc j) s ≡ reason (suc k) s

  -- the state after a run with budget j
  abbrev pub after : ℕ → State → State
  after j s = (run_on reason next j s).state

  -- ---- a run may be continued
  -- In what is looked at of an end, a run with budget j + k is one with budget k from where one with budget j ended; if a state
  -- in which something other than the budget stops a run is looked at alike with every budget.
  module _ (steady : Steady) {View : Type 0} (look : Ended State → View)
      (stopped : (j k r : ℕ) (s : State) → reason (suc j) s ≡ suc r → look (run_on reason next k s) ≡ look (ended (suc r) s)) where
    pub continues : (j k : ℕ) (s : State) → look (run_on reason next (j + k) s) ≡ look (run_on reason next k (after j s))
    unfolding run_on
    continues zero k s = ap (λ (n : ℕ). look (run_on reason next n s)) (let e : 0 + k ≡ k = omega arith in e)
    continues (suc j) k s = go (continues j k) (reason (suc j) s) refl
      where
        from : {x y : Ended State} → x ≡ y → look (run_on reason next k y.state) ≡ look (run_on reason next k x.state)
        from e = ap (λ (x : Ended State). look (run_on reason next k x.state)) (sym e)

        go : ((t : State) → look (run_on reason next (j + k) t) ≡ look (run_on reason next k (after j t))) → (r : ℕ) → reason (suc j) s ≡ r
            → look (run_on reason next (suc j + k) s) ≡ look (run_on reason next k (after (suc j) s))
        go ih zero e =
            ap (λ (n : ℕ). look (run_on reason next n s)) (suc-add j k) ∙ ap look (goes (j + k) s (steady (j + k) j s ∙ e)) ∙ ih (next s) ∙ from (goes j s e)
        go ih (suc r) e = stopped j (suc j + k) r s e ∙ sym (stopped j k r s e) ∙ from (halts (suc j) r s e)

  module _ (steady : Steady) where
    -- where a run has stopped, it stays
    same-state : (j k r : ℕ) (s : State) → reason (suc j) s ≡ suc r → after k s ≡ s
    unfolding run_on
    same-state j zero r s e = refl
    same-state j (suc k) r s e = ap (λ (x : Ended State). x.state) (halts (suc k) r s (steady k j s ∙ e))

    -- so what is left is the same, whether a run was made as one or as two
    one_by_one : (j : ℕ) (s : State) → after (suc j) s ≡ after 1 (after j s)
    one_by_one j s =
        ap (λ (n : ℕ). after n s) (let e : suc j ≡ j + 1 = omega arith in e) ∙ continues steady (λ (x : Ended State). x.state) same-state j 1 s

    -- budget j + 1 is one step more where none of the reasons holds after j steps, and else the same
    pub one_more : (j : ℕ) (s : State) → reason 1 (after j s) ≡ 0 → after (suc j) s ≡ next (after j s)
    unfolding run_on
    one_more j s e = one_by_one j s ∙ ap (λ (x : Ended State). x.state) (goes 0 (after j s) e)

    pub stays : (j r : ℕ) (s : State) → reason 1 (after j s) ≡ suc r → after (suc j) s ≡ after j s
    stays j r s e = one_by_one j s ∙ ap (λ (x : Ended State). x.state) (halts 1 r (after j s) e)

    -- and where such a state stops a run with no budget for the same reason, the reason is the same, too
    pub continued : ((j r : ℕ) (s : State) → reason (suc j) s ≡ suc r → reason 0 s ≡ suc r)
        → (j k : ℕ) (s : State) → run_on reason next (j + k) s ≡ run_on reason next k (after j s)
    continued firm = continues steady (λ (x : Ended State). x) same_end
      where
        same_end : (j k r : ℕ) (s : State) → reason (suc j) s ≡ suc r → run_on reason next k s ≡ ended (suc r) s
        same_end j zero r s e = halts zero r s (firm j r s e)
        same_end j (suc k) r s e = halts (suc k) r s (steady k j s ∙ e)
