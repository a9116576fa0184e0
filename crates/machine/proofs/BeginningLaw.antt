-- The beginning: the two machines are in step, whatever was in registers and memory before, if register 15 is alike.
use Prim.Native.Nat.{ℕ, zero, suc, ◌+◌}
use mathlib.Core.Path.{◌≡◌, refl, subst}
use mathlib.Core.Bool.{Bool, true, false, cond}
use mathlib.Core.List.{List}
use native.Mathlib.Omega.{arith}
use lib.ListN.{get_or}
use Rattle.rules.specs.Word.{all_ones}
use Rattle.rules.specs.Agreement.{Alike}
use Rattle.rules.proofs.Agreement.{alike_self, alike-undefined}
use Rattle.image.specs.Words.{Bytes}
use Rattle.image.specs.Format.{registers, frame_register, data_at, field_m, field_n, field_r, field_d}
use Rattle.image.specs.Regions.{region_at, filled_sum}
use Rattle.image.specs.declared.Region.{Region}
use Rattle.image.proofs.Parts.{bytes-part}
use Rattle.machine.specs.Machine.{undefined_byte, defined_byte, addressable_mark, unaddressable_mark, zero_counts}
use Rattle.machine.specs.Ranges.{written, filled}
use Rattle.machine.specs.Beginning.{Registers, Memory, is_filled, lay_data, lay_v, lay_a, laid, regions_of, data_of, begun_memory, begun_v, begun_a, begun_regs_v, begun_parts}
use Rattle.machine.specs.Lists.{output_places, outputs_in}
use Rattle.machine.specs.Bare.{bare_begun}
use Rattle.machine.specs.Frame.{frame_of}
use Rattle.machine.proofs.Relation.{Beside, WordAlike, ByteAlike, InStep, beside-shadow, beside-all, byte-undefined, mark-alike, data-alike}

-- ---- the memory
module _ (regions held : List ℕ) (b : Bytes held) where
  region-alike : (i : ℕ) {bs vs xs ys : List ℕ} → Beside ByteAlike bs vs xs ys
      → Beside ByteAlike (lay_a regions i bs) (lay_v regions i vs) (lay_data regions held i xs) (lay_data regions held i ys)
  region-alike i {bs} {vs} {xs} {ys} r = go (is_filled region)
    where
      region : Region
      region = region_at regions i

      from : ℕ → ℕ
      from k = get_or held (filled_sum regions i + k) 0

      go : (t : Bool)
          → Beside ByteAlike (lay_a regions i bs) (filled (cond t defined_byte undefined_byte) vs region.start region.size)
          (cond t (written from xs region.start region.size) xs) (cond t (written from ys region.start region.size) ys)
      go true = data-alike r from (λ k. b (filled_sum regions i + k)) region.start region.size
      go false = mark-alike r addressable_mark region.start region.size

  regions-alike : (count : ℕ) {bs vs xs ys : List ℕ} → Beside ByteAlike bs vs xs ys
      → Beside ByteAlike (laid (lay_a regions) count bs) (laid (lay_v regions) count vs) (laid (lay_data regions held) count xs) (laid (lay_data regions held) count ys)
  unfolding laid
  regions-alike zero r = r
  regions-alike (suc count) r = region-alike count (regions-alike count r)

-- ---- the registers
-- registers are undefined, but for the one that is alike
registers-alike : {regs regs' : List ℕ} → Registers regs → Registers regs' → frame_of regs ≡ frame_of regs'
    → Beside WordAlike begun_regs_v begun_regs_v regs regs'
registers-alike {regs} {regs'} h h' frame =
    beside-shadow
    (beside-all {P = WordAlike} registers all_ones all_ones regs regs' h.sixteen h'.sixteen (λ i. alike-undefined 32 (h.words i) (h'.words i)))
    frame_register 0 0
    (subst (λ (y : ℕ). Alike 32 0 (frame_of regs) y) frame (alike_self (omega arith) (h.words frame_register)))

pub begins-in-step : (s regs mem regs' mem' reports outputs : List ℕ) → Bytes s → Registers regs → Registers regs'
    → Memory (field_m s) mem → Memory (field_m s) mem' → frame_of regs ≡ frame_of regs'
    → InStep (output_places outputs) (record { parts = begun_parts s regs mem; counts = zero_counts; report_list = reports; output_list = outputs }) (bare_begun s regs' mem')
unfolding begun_parts bare_begun begun_memory begun_v begun_a outputs_in
begins-in-step s regs mem regs' mem' reports outputs b h h' held held' frame =
    record {
      parts =
          record {
            regs = registers-alike h h' frame;
            mem =
                regions-alike (regions_of s) (data_of s) (bytes-part s (data_at (field_n s) (field_r s)) (field_d s) b) (field_r s)
                (beside-all {P = ByteAlike} (field_m s) unaddressable_mark undefined_byte mem mem' held.size held'.size (λ i. byte-undefined unaddressable_mark (held.bytes i) (held'.bytes i)));
            marks = refl;
          };
      index = refl;
      steps = refl;
      outputs = refl;
      room = omega arith;
      places_kept = refl;
    }
