-- Laws of the groups of instructions: what each group's method reads, checks and writes is `stepped` of its instruction.
use Prim.Native.Nat.{ℕ, ◌+◌}
use mathlib.Core.Path.{◌≡◌, refl, sym, ap, ◌∙◌, subst}
use mathlib.Core.Bool.{Bool, true, false, cond, not}
use mathlib.Core.List.{List, [], ◌∷◌, ◌++◌}
use lib.ListN.{length, get_or, set}
use lib.Dec.{eqb}
use borrow.Author.Tests.{eq-eqb, ne_eqb}
use Rattle.rules.specs.Actions.{mov_of}
use Rattle.rules.specs.Shadows.{mov_v}
use Rattle.rules.specs.Operations.{action_of, shadow_of}
use Rattle.rules.specs.declared.Operation.{Operation}
use Rattle.image.specs.declared.Operand.{Operand}
use Rattle.image.specs.declared.Width.{Width}
use Rattle.image.specs.declared.Widening.{Widening}
use Rattle.image.specs.declared.Instruction.{Instruction}
use Rattle.image.specs.declared.Instruction.TheVariants.{Stop, Move, Compute, Load, Store, Jump, Emit, Mark}
use Rattle.machine.specs.Machine.{undefined_byte}
use Rattle.rules.specs.Bytes.{byte_of}
use Rattle.machine.specs.Ranges.{is_addressable, all_addressable, loaded_where, filled, stored}
use Rattle.machine.specs.Instructions.{operand_data, address_of, bytes_of, widened, blocked, way_on, output, outputs_of}
use Rattle.machine.specs.Steps.{operand_v, same_register, with_register, cleared, load_step, store_step, mark_of, mark_step, acted, undefined_address, undefined_condition, unaddressable_load, unaddressable_store, undefined_output, Report, report, if_undefined, if_blocked, reports_of}
use Rattle.machine.specs.Lists.{report_size, output_size, report_words, output_words, entered, outputs_entered}
use Rattle.checker.specs.declared.Counts.{Counts}
use Rattle.std.proofs.Common.{MutBor}
use Rattle.checker.specs.declared.registers.Registers.{Registers}
use Rattle.checker.specs.declared.step.Machine.{Machine}
use Rattle.checker.specs.Pieces.{reported, moved, Reports, world_in, Lent, Checked, Accessed, Kept, Stored, Steps}
use Rattle.checker.proofs.RangeLaws.{stored-whole, none-stored, more-stored}
use Rattle.checker.proofs.StepLaws.{none, one, both-checks, undefined-none, undefined-one, blocked-none, blocked-one, clear-already, taken}

-- that a machine's V and A bits have memory's size: what its two ghost fields say
abbrev SizeV : Machine → Type 0
SizeV m = length m.vbits.now ≡ length m.mem.now

abbrev SizeA : Machine → Type 0
SizeA m = length m.abits.now ≡ length m.mem.now

-- what is lent stays lent
pub still : {m : Machine} → Lent m m
still = record { registers = refl; mem = refl; vbits = refl; abits = refl; reports = refl; outputs = refl }

pub then_lent : {m t u : Machine} → Lent m t → Lent t u → Lent m u
then_lent p q =
    record {
      registers = q.registers ∙ p.registers;
      mem = q.mem ∙ p.mem;
      vbits = q.vbits ∙ p.vbits;
      abits = q.abits ∙ p.abits;
      reports = q.reports ∙ p.reports;
      outputs = q.outputs ∙ p.outputs;
    }

pub counted_lent : {m t : Machine} {next : Counts} {v : SizeV t} {a : SizeA t} → Lent m t → Lent m (record t { counts = next; size_v = v; size_a = a })
counted_lent p = record { registers = p.registers; mem = p.mem; vbits = p.vbits; abits = p.abits; reports = p.reports; outputs = p.outputs }

-- a machine whose registers or outputs have other values
lent-registers : {m : Machine} {next : Counts} {r : MutBor Registers} {v : SizeV m} {a : SizeA m} → r.ghost_name ≡ m.registers.ghost_name
    → Lent m (record m { counts = next; registers = r; size_v = v; size_a = a })
lent-registers same = record { registers = same; mem = refl; vbits = refl; abits = refl; reports = refl; outputs = refl }

lent-outputs : {m : Machine} {next : Counts} {o : MutBor (List ℕ)} {v : SizeV m} {a : SizeA m} → o.ghost_name ≡ m.outputs.ghost_name
    → Lent m (record m { counts = next; outputs = o; size_v = v; size_a = a })
lent-outputs same = record { registers = refl; mem = refl; vbits = refl; abits = refl; reports = refl; outputs = same }

-- the checks leave t; from there the parts become what the instruction leaves, its outputs are entered, and it is counted
steps : (i : Instruction) (m t u : Machine) → Lent m u → Reports (reports_of i (world_in m).parts) m.counts m.reports.now t.counts u.reports.now
    → u.counts ≡ moved (way_on i m.registers.now.data t.counts.index) (length (outputs_of i m.registers.now.data)) t.counts
    → (world_in u).parts ≡ acted i (world_in m).parts
    → u.outputs.now ≡ outputs_entered t.counts.outputs (outputs_of i m.registers.now.data) m.outputs.now
    → Steps i m u
steps i m t u lent r e a o = record { lent = lent; taken = taken i _ _ m.counts t.counts u.counts _ _ _ _ r e a o }

-- ---- what reports nothing
pub stop-law : (m : Machine) (next : Counts) {size_v : SizeV m} {size_a : SizeA m} → next ≡ moved (m.counts.index + 1) 0 m.counts
    → Steps Stop m (record m { counts = next; size_v = size_v; size_a = size_a })
unfolding acted reports_of way_on outputs_of outputs_entered
stop-law m next e = steps Stop m m _ (counted_lent still) (none m.counts _) e refl refl

module _ {m : Machine} {next : Counts} {r : MutBor Registers} {size_v : SizeV m} {size_a : SizeA m} (e : next ≡ moved (m.counts.index + 1) 0 m.counts) (same : r.ghost_name ≡ m.registers.ghost_name)
    {d : ℕ} {b : Operand} {x v y w : ℕ} (words : r.now.data ≡ set m.registers.now.data d x) (shadow_words : r.now.shadows ≡ set m.registers.now.shadows d v)
    (second : y ≡ operand_data b m.registers.now.data) (second_v : w ≡ operand_v b m.registers.now.shadows) where
  pub move-law : x ≡ mov_of y → v ≡ mov_v w → Steps (Move d b) m (record m { counts = next; registers = r; size_v = size_v; size_a = size_a })
  unfolding acted with_register reports_of way_on outputs_of outputs_entered
  move-law p q = steps (Move d b) m m _ (lent-registers same) (none m.counts _) e (rw (words, shadow_words, p, q, second, second_v) refl) refl

  pub compute-law : (op : Operation) (a : ℕ) {x' v' : ℕ} {both : Bool} → x ≡ action_of op x' y → v ≡ shadow_of op both x' v' y w → x' ≡ get_or m.registers.now.data a 0
      → v' ≡ get_or m.registers.now.shadows a 0 → both ≡ same_register a b → Steps (Compute op d a b) m (record m { counts = next; registers = r; size_v = size_v; size_a = size_a })
  unfolding acted with_register reports_of way_on outputs_of outputs_entered
  compute-law op a p q first first_v s = steps (Compute op d a b) m m _ (lent-registers same) (none m.counts _) e (rw (words, shadow_words, p, q, s, first, first_v, second, second_v) refl) refl

pub mark-law : {m : Machine} {next : Counts} {v a : MutBor (List ℕ)} {size_v : length v.now ≡ length m.mem.now} {size_a : length a.now ≡ length m.mem.now}
    {addressable : Bool} {start size mark : ℕ} → next ≡ moved (m.counts.index + 1) 0 m.counts
    → v.ghost_name ≡ m.vbits.ghost_name → a.ghost_name ≡ m.abits.ghost_name → v.now ≡ filled undefined_byte m.vbits.now start size
    → a.now ≡ filled mark m.abits.now start size → mark ≡ mark_of addressable
    → Steps (Mark addressable start size) m (record m { counts = next; vbits = v; abits = a; size_v = size_v; size_a = size_a })
unfolding acted mark_step reports_of way_on outputs_of outputs_entered
mark-law {m} {next} {v} {a} {size_v} {size_a} {addressable} {start} {size} e same_v same_a is_v is_a k =
    steps (Mark addressable start size) m m _ (record { registers = refl; mem = refl; vbits = same_v; abits = same_a; reports = refl; outputs = refl }) (none m.counts _) e
    (rw (is_v, is_a, k) refl)
    refl

-- ---- the checks
pub report-law : {m : Machine} {next : Counts} {r : MutBor (List ℕ)} {size_v : SizeV m} {size_a : SizeA m} {kind detail : ℕ} → r.ghost_name ≡ m.reports.ghost_name → next ≡ reported 1 m.counts
    → r.now ≡ entered report_size m.counts.reports (report_words m.counts.steps m.counts.index (report kind detail)) m.reports.now
    → Checked (report kind detail ∷ []) m.registers.now.shadows m (record m { counts = next; reports = r; size_v = size_v; size_a = size_a })
report-law {m} {next} {r} {size_v} {size_a} {kind} {detail} same e q =
    record {
      lent = record { registers = refl; mem = refl; vbits = refl; abits = refl; reports = same; outputs = refl };
      reports = one kind detail _ _ _ _ e q;
      words = refl;
      shadow_words = refl;
      mem = refl;
      vbits = refl;
      abits = refl;
      outputs = refl;
    }

-- nothing to report, and the V words are as wanted
unchecked : {rs : List Report} {shadows : List ℕ} {m : Machine} {v : SizeV m} {a : SizeA m} → Reports rs m.counts m.reports.now m.counts m.reports.now → m.registers.now.shadows ≡ shadows
    → Checked rs shadows m (record m { size_v = v; size_a = a })
unchecked r e =
    record {
      lent = record { registers = refl; mem = refl; vbits = refl; abits = refl; reports = refl; outputs = refl };
      reports = r;
      words = refl;
      shadow_words = e;
      mem = refl;
      vbits = refl;
      abits = refl;
      outputs = refl;
    }

pub defined-law : {m : Machine} {size_v : SizeV m} {size_a : SizeA m} (kind a : ℕ) {v : ℕ} → v ≡ get_or m.registers.now.shadows a 0 → v ≡ 0
    → Checked (if_undefined kind (get_or m.registers.now.shadows a 0)) (set m.registers.now.shadows a 0) m (record m { size_v = size_v; size_a = size_a })
defined-law {m} kind a e z = unchecked (undefined-none kind _ _ _ (sym e ∙ z)) (clear-already _ a (sym e ∙ z))

pub undefined-law : {m u : Machine} {r : MutBor Registers} {size_v : SizeV m} {size_a : SizeA m} (kind a : ℕ) {v : ℕ} → v ≡ get_or m.registers.now.shadows a 0 → (v ≡ 0 → ⊥) → r.ghost_name ≡ m.registers.ghost_name
    → r.now.data ≡ m.registers.now.data → r.now.shadows ≡ set m.registers.now.shadows a 0
    → Checked (report kind v ∷ []) r.now.shadows (record m { registers = r; size_v = size_v; size_a = size_a }) u
    → Checked (if_undefined kind (get_or m.registers.now.shadows a 0)) (set m.registers.now.shadows a 0) m u
undefined-law {m} {u} {r} {size_v} {size_a} kind a {v} e some same words clear t =
    record {
      lent = then_lent (lent-registers same) t.lent;
      reports = subst (λ (x : ℕ). Reports (if_undefined kind x) m.counts m.reports.now u.counts u.reports.now) e (undefined-one kind v _ _ _ _ some t.reports);
      words = t.words ∙ words;
      shadow_words = t.shadow_words ∙ clear;
      mem = t.mem;
      vbits = t.vbits;
      abits = t.abits;
      outputs = t.outputs;
    }

pub whole-law : {m : Machine} (kind at : ℕ) {whole : Bool} → whole ≡ true → Checked (if_blocked kind at (not whole)) m.registers.now.shadows m m
whole-law {m} kind at e = unchecked (blocked-none kind at _ _ _ e) refl

pub blocked-law : {m u : Machine} {kind at : ℕ} {whole : Bool} → whole ≡ false → Checked (report kind at ∷ []) m.registers.now.shadows m u
    → Checked (if_blocked kind at (not whole)) m.registers.now.shadows m u
blocked-law {m} {u} {kind} {at} e t =
    record {
      lent = t.lent;
      reports = blocked-one kind at _ _ _ _ _ e t.reports;
      words = t.words;
      shadow_words = t.shadow_words;
      mem = t.mem;
      vbits = t.vbits;
      abits = t.abits;
      outputs = t.outputs;
    }

-- ---- loads and stores: V of a is checked and cleared, then the bytes
pub access-law : {kind : ℕ} {width : Width} {a imm at : ℕ} {whole : Bool} {m t u : Machine}
    → Checked (if_undefined undefined_address (get_or m.registers.now.shadows a 0)) (set m.registers.now.shadows a 0) m t
    → Checked (if_blocked kind at (not whole)) t.registers.now.shadows t u
    → at ≡ address_of m.registers.now.data a imm → whole ≡ all_addressable t.abits.now at (bytes_of width) → Accessed kind width a imm at whole m u
access-law {kind} {width} {a} {imm} {at} {whole} {m} {t} {u} first second place bytes =
    record {
      place = place;
      bytes = bytes ∙ ap (λ (A : List ℕ). all_addressable A at (bytes_of width)) first.abits;
      checked =
          record {
            lent = then_lent first.lent second.lent;
            reports = both-checks _ _ _ _ _ _ _ _ first.reports second.reports;
            words = second.words ∙ first.words;
            shadow_words = second.shadow_words ∙ first.shadow_words;
            mem = second.mem ∙ first.mem;
            vbits = second.vbits ∙ first.vbits;
            abits = second.abits ∙ first.abits;
            outputs = second.outputs ∙ first.outputs;
          };
    }

module _ {kind : ℕ} {width : Width} {a imm at : ℕ} {whole : Bool} {m t : Machine} (r : Accessed kind width a imm at whole m t) where
  -- the reports are those of the instruction
  asked : Reports (if_undefined undefined_address (get_or m.registers.now.shadows a 0) ++ if_blocked kind (address_of m.registers.now.data a imm) (not (all_addressable m.abits.now (address_of m.registers.now.data a imm) (bytes_of width)))) m.counts m.reports.now t.counts t.reports.now
  asked =
      subst
      (λ (rs : List Report). Reports (if_undefined undefined_address (get_or m.registers.now.shadows a 0) ++ rs) m.counts m.reports.now t.counts t.reports.now)
      (rw (r.bytes, r.place) refl)
      r.checked.reports

pub load-law : {width : Width} {widening : Widening} {d a imm at : ℕ} {whole : Bool} {m t : Machine} {next : Counts} {r : MutBor Registers} {size_v : SizeV t} {size_a : SizeA t}
    {x v : ℕ}
    → Accessed unaddressable_load width a imm at whole m t → next ≡ moved (t.counts.index + 1) 0 t.counts → r.ghost_name ≡ t.registers.ghost_name
    → r.now.data ≡ set t.registers.now.data d x → r.now.shadows ≡ set t.registers.now.shadows d v
    → x ≡ widened widening (bytes_of width) (loaded_where t.abits.now t.mem.now at (bytes_of width))
    → v ≡ widened widening (bytes_of width) (loaded_where t.abits.now t.vbits.now at (bytes_of width))
    → Steps (Load width widening d a imm) m (record t { counts = next; registers = r; size_v = size_v; size_a = size_a })
unfolding acted load_step with_register cleared reports_of blocked way_on outputs_of outputs_entered
load-law {width} {widening} {d} {a} {imm} {at} {whole} {m} {t} {next} {r} {size_v} {size_a} {x} {v} s e same words shadow_words p q =
    let k = s.checked in
    steps (Load width widening d a imm) m t _ (then_lent k.lent (lent-registers same)) (asked s) e
    (rw (words, shadow_words, p, q, k.words, k.shadow_words, k.mem, k.vbits, k.abits, s.place) refl)
    k.outputs

pub store-law : {width : Width} {d a imm at : ℕ} {whole : Bool} {m t u : Machine} {next : Counts} {size_v : SizeV u} {size_a : SizeA u} {x v : ℕ}
    → Accessed unaddressable_store width a imm at whole m t → Stored x v at (bytes_of width) t u → next ≡ moved (u.counts.index + 1) 0 u.counts
    → x ≡ get_or t.registers.now.data d 0 → v ≡ get_or t.registers.now.shadows d 0
    → Steps (Store width d a imm) m (record u { counts = next; size_v = size_v; size_a = size_a })
unfolding acted store_step cleared reports_of blocked way_on outputs_of outputs_entered
store-law {width} {d} {a} {imm} {at} {whole} {m} {t} {u} {next} {size_v} {size_a} {x} {v} s o e p q =
    let k = s.checked in
    let l = o.kept in
    steps (Store width d a imm) m t _ (counted_lent (then_lent k.lent l.lent))
    (rw l.reports (asked s))
    (e ∙ ap (λ (c : Counts). moved (c.index + 1) 0 c) l.counts)
    (rw (o.mem, o.vbits, l.registers, l.abits, p, q, k.words, k.shadow_words, k.mem, k.vbits, k.abits, s.place) refl)
    (l.outputs ∙ k.outputs)

-- ---- a jump and an output: V of a is checked and cleared
module _ {a : ℕ} {m t : Machine} {next : Counts} {size_v : SizeV t} {size_a : SizeA t} {x : ℕ} (is : x ≡ get_or t.registers.now.data a 0) where
  jump-law : {target : ℕ} → next ≡ moved (cond (eqb (get_or m.registers.now.data a 0) 0) (t.counts.index + 1) target) 0 t.counts
      → Checked (if_undefined undefined_condition (get_or m.registers.now.shadows a 0)) (set m.registers.now.shadows a 0) m t
      → Steps (Jump a target) m (record t { counts = next; size_v = size_v; size_a = size_a })
  unfolding acted cleared reports_of way_on outputs_of outputs_entered
  jump-law {target} e k = steps (Jump a target) m t _ (counted_lent k.lent) k.reports e (rw (k.words, k.shadow_words, k.mem, k.vbits, k.abits) refl) k.outputs

  pub falls-through : {target : ℕ} → next ≡ moved (t.counts.index + 1) 0 t.counts
      → Checked (if_undefined undefined_condition (get_or m.registers.now.shadows a 0)) (set m.registers.now.shadows a 0) m t
      → x ≡ 0 → Steps (Jump a target) m (record t { counts = next; size_v = size_v; size_a = size_a })
  falls-through {target} e k z = jump-law (rw (eq-eqb (get_or m.registers.now.data a 0) 0 (rw (sym k.words) (sym is ∙ z))) e) k

  pub jumps : {target : ℕ} → next ≡ moved target 0 t.counts
      → Checked (if_undefined undefined_condition (get_or m.registers.now.shadows a 0)) (set m.registers.now.shadows a 0) m t
      → (x ≡ 0 → ⊥) → Steps (Jump a target) m (record t { counts = next; size_v = size_v; size_a = size_a })
  jumps {target} e k z = jump-law (rw (ne_eqb (get_or m.registers.now.data a 0) 0 (λ n. z (is ∙ rw k.words n))) e) k

  pub emit-law : {port : ℕ} {o : MutBor (List ℕ)} → next ≡ moved (t.counts.index + 1) 1 t.counts
      → Checked (if_undefined undefined_output (get_or m.registers.now.shadows a 0)) (set m.registers.now.shadows a 0) m t
      → o.ghost_name ≡ t.outputs.ghost_name → o.now ≡ entered output_size t.counts.outputs (output_words (output port x)) t.outputs.now
      → Steps (Emit a port) m (record t { counts = next; outputs = o; size_v = size_v; size_a = size_a })
  unfolding acted cleared reports_of way_on outputs_of outputs_entered
  emit-law {port} {o} e k same q =
      steps (Emit a port) m t _ (then_lent k.lent (lent-outputs same)) k.reports e (rw (k.words, k.shadow_words, k.mem, k.vbits, k.abits) refl)
      (q ∙ rw (is, k.words, k.outputs) refl)

-- ---- what is stored
module _ {m : Machine} {x v : MutBor (List ℕ)} {size_v : length v.now ≡ length x.now} {size_a : length m.abits.now ≡ length x.now}
    (same : x.ghost_name ≡ m.mem.ghost_name) (same_v : v.ghost_name ≡ m.vbits.ghost_name) where
  pub kept-law : Kept m (record m { mem = x; vbits = v; size_v = size_v; size_a = size_a })
  kept-law =
      record {
        lent = record { registers = refl; mem = same; vbits = same_v; abits = refl; reports = refl; outputs = refl };
        counts = refl;
        registers = refl;
        abits = refl;
        reports = refl;
        outputs = refl;
      }

  pub write-law : (width : Width) {at word word_v : ℕ} {whole : Bool} → whole ≡ all_addressable m.abits.now at (bytes_of width) → whole ≡ true
      → x.now ≡ stored word m.mem.now at (bytes_of width) → v.now ≡ stored word_v m.vbits.now at (bytes_of width)
      → Stored word word_v at (bytes_of width) m (record m { mem = x; vbits = v; size_v = size_v; size_a = size_a })
  write-law width e chosen p q =
      record {
        kept = kept-law;
        mem = p ∙ stored-whole _ _ _ _ _ (sym e ∙ chosen);
        vbits = q ∙ stored-whole _ _ _ _ _ (sym e ∙ chosen);
      }

pub none-kept : {m : Machine} → Kept m m
none-kept =
    record {
      lent = still;
      counts = refl;
      registers = refl;
      abits = refl;
      reports = refl;
      outputs = refl;
    }

pub none_stored : {m : Machine} (x v at : ℕ) → Stored x v at 0 m m
none_stored x v at = record { kept = none-kept; mem = none-stored _ x _ at; vbits = none-stored _ v _ at }

module _ {x v at k : ℕ} {m t : Machine} (s : Stored x v at k m t) where
  pub one_stored : {u : Machine} {b b_v : ℕ} → Kept t u → b ≡ byte_of k x → b_v ≡ byte_of k v
      → u.mem.now ≡ cond (is_addressable t.abits.now (at + k)) (set t.mem.now (at + k) b) t.mem.now
      → u.vbits.now ≡ cond (is_addressable t.abits.now (at + k)) (set t.vbits.now (at + k) b_v) t.vbits.now
      → Stored x v at (k + 1) m u
  one_stored {u} {b} {b_v} w e e_v p q =
      record {
        kept =
            record {
              lent = then_lent s.kept.lent w.lent;
              counts = w.counts ∙ s.kept.counts;
              registers = w.registers ∙ s.kept.registers;
              abits = w.abits ∙ s.kept.abits;
              reports = w.reports ∙ s.kept.reports;
              outputs = w.outputs ∙ s.kept.outputs;
            };
        mem = p ∙ rw (e, s.kept.abits) (more-stored _ _ _ _ _ _ s.mem);
        vbits = q ∙ rw (e_v, s.kept.abits) (more-stored _ _ _ _ _ _ s.vbits);
      }
