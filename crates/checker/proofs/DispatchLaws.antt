-- Laws of the dispatch: the instruction that the fields make, by the op that a match has found; what the function of its group asks for follows from what
-- is known of it, and what it promises is its step.
use Prim.Native.Nat.{ℕ, ◌<◌}
use mathlib.Core.Path.{◌≡◌, refl, sym, ap, ◌∙◌, subst}
use mathlib.Core.Bool.{Bool, true, false, not, ◌||◌}
use mathlib.Core.List.{List}
use lib.Dec.{eqb}
use borrow.Author.Tests.{eqb-true, ne_eqb}
use Rattle.rules.specs.declared.Operation.{Operation}
use Rattle.image.specs.Rows.{row_of, literal_mark, range_start, range_length, operand_of, built, Fields, fields_at}
use Rattle.image.specs.Encoding.{op_of, ops, load_op, store_op, mark_op}
use Rattle.image.specs.declared.Operand.TheVariants.{Register, Literal}
use Rattle.image.specs.declared.Width.{Width}
use Rattle.image.specs.declared.Widening.{Widening}
use Rattle.image.proofs.Tests.{apart, every-below}
use Rattle.image.proofs.EncodingLaws.{row-of-op, row-of-load, row-of-store, row-of-mark}
use Rattle.image.specs.declared.Instruction.{Instruction}
use Rattle.image.specs.declared.Instruction.TheVariants.{Stop, Move, Compute, Load, Store, Jump, Emit, Mark}
use Rattle.checker.specs.declared.step.Machine.{Machine}
use Rattle.checker.specs.Pieces.{MayStep, Steps, standing, move_at, compute_at, mark_at, ByteIs, ImmIs, one_of, load_ops, store_ops, IsAccess, width_of, widening_of}

-- an op that is one of two lists and not of the first is of the second
other : (s t : Bool) → (s || t) ≡ true → s ≡ false → t ≡ true
other true t h e = apart e
other false t h e = h

-- the op of a load or store is the number of its width and widening: tried on each op
loads : ℕ → Bool
loads op = not (one_of load_ops op) || eqb (load_op (width_of op) (widening_of op)) op

stores : ℕ → Bool
stores op = not (one_of store_ops op) || eqb (store_op (width_of op)) op

passes : (t : Bool) (k op : ℕ) → (not t || eqb k op) ≡ true → t ≡ true → k ≡ op
passes true k op h e = eqb-true k op h
passes false k op h e = apart (sym e)

load-number : (op : ℕ) → op < ops → one_of load_ops op ≡ true → load_op (width_of op) (widening_of op) ≡ op
unfolding loads load_op
load-number op l = passes (one_of load_ops op) _ op (every-below loads ops refl op l)

store-number : (op : ℕ) → op < ops → one_of store_ops op ≡ true → store_op (width_of op) ≡ op
unfolding stores store_op
store-number op l = passes (one_of store_ops op) _ op (every-below stores ops refl op l)

-- ---- the instruction of an op that a match has found
module _ {code : List ℕ} {index op : ℕ} (its : ByteIs code index 0 op) where
  abbrev f : Fields
  f = fields_at code index

  same : f.op ≡ op
  same = sym its.same

  pub told_move : op ≡ 1 → standing code index ≡ move_at code index
  unfolding standing move_at row_of built
  told_move e = rw (same, e) refl

  pub told : (o : Operation) → op ≡ op_of o → standing code index ≡ compute_at o code index
  unfolding standing compute_at built
  told o e = rw (same, e, row-of-op o) refl

  module _ {d a imm : ℕ} {width : Width} (w : width ≡ width_of op) (first : ByteIs code index 1 d) (second : ByteIs code index 2 a) (third : ImmIs code index imm)
      (access : IsAccess op) {t : Bool} (tested : t ≡ one_of store_ops op) where
    pub told-store : t ≡ true → standing code index ≡ Store width d a imm
    unfolding standing built
    told-store taken =
        let e = store-number op access.known (sym tested ∙ taken) in
        let row = ap row_of (sym e) ∙ row-of-store (width_of op) in
        rw (w, first.same, second.same, third.same, same, row) refl

    pub told-load : {widening : Widening} → widening ≡ widening_of op → t ≡ false → standing code index ≡ Load width widening d a imm
    unfolding standing built
    told-load z left =
        let e = load-number op access.known (access.listed (sym tested ∙ left)) in
        let row = ap row_of (sym e) ∙ row-of-load (width_of op) (widening_of op) (subst (λ (k : ℕ). k < ops) (sym e) access.known) in
        rw (w, z, first.same, second.same, third.same, same, row) refl

  module _ {a imm : ℕ} (second : ByteIs code index 2 a) (third : ImmIs code index imm) where
    pub told-jump : op ≡ 17 → standing code index ≡ Jump a imm
    unfolding standing row_of built
    told-jump e = rw (second.same, third.same, same, e) refl

    pub told-emit : op ≡ 18 → standing code index ≡ Emit a imm
    unfolding standing row_of built
    told-emit e = rw (second.same, third.same, same, e) refl

  pub told-mark : (addressable : Bool) → op ≡ mark_op addressable → standing code index ≡ mark_at addressable code index
  unfolding standing mark_at built
  told-mark addressable e = rw (same, e, row-of-mark addressable) refl

  pub told-stop : op ≡ 0 → standing code index ≡ Stop
  unfolding standing row_of built
  told-stop e = rw (same, e) refl

-- the range of OPEN and CLOSE
pub marks-range : {code : List ℕ} {index imm : ℕ} → ImmIs code index imm → (addressable : Bool) → mark_at addressable code index ≡ Mark addressable (range_start imm) (range_length imm)
unfolding mark_at
marks-range i addressable = rw i.same refl

-- ---- B: a register or a literal
module _ {code : List ℕ} {index d b : ℕ} (first : ByteIs code index 1 d) (last : ByteIs code index 3 b) where
  abbrev g : Fields
  g = fields_at code index

  is-literal : {imm : ℕ} → ImmIs code index imm → b ≡ literal_mark → operand_of g.b g.imm ≡ Literal (record { 0 = imm })
  is-literal i e = rw (sym last.same, e, i.same) refl

  is-register : (b ≡ literal_mark → ⊥) → operand_of g.b g.imm ≡ Register b
  is-register n = rw (sym last.same, ne_eqb b literal_mark n) refl

  pub move-literal : {imm : ℕ} → ImmIs code index imm → b ≡ literal_mark → move_at code index ≡ Move d (Literal (record { 0 = imm }))
  unfolding move_at
  move-literal i e = rw (first.same, is-literal i e) refl

  pub move-register : (b ≡ literal_mark → ⊥) → move_at code index ≡ Move d (Register b)
  unfolding move_at
  move-register n = rw (first.same, is-register n) refl

  module _ {a : ℕ} (second : ByteIs code index 2 a) (op : Operation) where
    pub compute-literal : {imm : ℕ} → ImmIs code index imm → b ≡ literal_mark → compute_at op code index ≡ Compute op d a (Literal (record { 0 = imm }))
    unfolding compute_at
    compute-literal i e = rw (first.same, second.same, is-literal i e) refl

    pub compute-register : (b ≡ literal_mark → ⊥) → compute_at op code index ≡ Compute op d a (Register b)
    unfolding compute_at
    compute-register n = rw (first.same, second.same, is-register n) refl

module _ {i j : Instruction} (e : i ≡ j) {m : Machine} where
  -- what a group asks for
  pub may-as : MayStep i m → MayStep j m
  may-as f = subst (λ (k : Instruction). MayStep k m) e f

  -- and what it promises
  pub steps-as : {m' : Machine} → Steps j m m' → Steps i m m'
  steps-as {m'} s = subst (λ (k : Instruction). Steps k m m') (sym e) s

-- what each case of `step` asks for and gives
pub ruleset stepping = (may-as, steps-as, told_move, told, told-jump, told-emit, told-mark, told-stop)
