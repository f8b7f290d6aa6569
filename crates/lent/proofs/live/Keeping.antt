-- A monitor stored after an instant: its rows are as they were found, and the head but for the monitor beside the sheet. Assumes nothing.
use Rattle.std.specs.Prelude.{None, Option, Some}
use mathlib.Core.Bool.{true, ◌&&◌}
use mathlib.Core.List.{List}
use mathlib.Core.Path.{◌≡◌, sym, ◌∙◌, subst}
use Prim.Native.Nat.{ℕ, ◌+◌, ◌-◌, ◌≤◌, ◌<◌}
use native.Mathlib.Omega.{arith}
use lib.Dec.{T}
use Rattle.records.proofs.Lists.{both}
use Rattle.judge.specs.declared.progress.Progress.{Progress}
use Rattle.lines.specs.declared.plan.Plan.{Plan}
use Rattle.remainders.specs.View.{live_count}
use Rattle.remainders.specs.Rows.{head_rows, stopped_part, width, word}
use Rattle.step.specs.Apply.{found_in, FewOwedIn}
use Rattle.lent.specs.UnusedWords.{NothingBeside}
use Rattle.lent.specs.Cleared.{StopsStay, Tidied}
use Rattle.lent.specs.State.{has_format, has_kinds, is_side, is_state, FewIn, PuttingProgress, PutProgress}
use Rattle.lent.specs.Found.{KeepingNext, KeptNext}
use Rattle.judge.proofs.progress.Laws.{other-side}
use Rattle.lent.proofs.unused.Sides.{SameRows, small_same, found-same, nothing-same}
use Rattle.lent.proofs.state.Laws.{side-is}
use Rattle.lent.proofs.state.Same.{sheet-beside, sheet-stays, state-stays}

pub few-in : (c : Option ℕ) (rows : List ℕ) (from : ℕ) → FewOwedIn c rows from → FewIn c
few-in None rows from s = tt
few-in (Some n) rows from s = s.0

-- nothing is beside those held, where the rows behind the head stay
pub beside_same : {p : Plan} (count : Option ℕ) (from : ℕ) (a b : List ℕ) → head_rows ≤ from → ((h q : ℕ) → head_rows ≤ h → q < width → word b h q ≡ word a h q) → NothingBeside p count from a → NothingBeside p count from b
beside_same count from a b past same n = record {
  others = λ h q l m k f. same h q l k ∙ n.others h q l m k f;
  each = λ k l. nothing-same a b (from + k) (λ q m. same (from + k) q (omega arith) m) (n.each k l);
}

module _ (k next : Progress) (p : Plan) {a : List ℕ} (can : KeepingNext a k next) where
  module _ {c : List ℕ} (t : Tidied p k.from k.count next.count a c) where
    small : FewOwedIn next.count c next.from
    small = subst (FewOwedIn next.count c) (sym can.to) t.small

    pub can-put : PuttingProgress c next
    can-put = record {
      size = t.size ∙ can.size;
      instants = can.instants;
      few = few-in next.count c next.from small;
      side = subst (λ (n : ℕ). T (is_side n)) (sym can.to) (side-is (45 - k.from) (other-side can.side));
    }

    module _ {b : List ℕ} (q : PutProgress next c b) where
      -- the rows behind the head
      behind : (h j : ℕ) → 6 ≤ h → j < width → word b h j ≡ word c h j
      behind h j l m = q.stays.same h j m (λ e x y. omega arith)

      past : 6 ≤ next.from
      past = omega (arith, can.side.past, can.to)

      same : SameRows c b next.from (live_count next.count)
      same j i l m = behind (next.from + j) i (omega (arith, past)) m

      state : is_state a ≡ true → is_state b ≡ true
      unfolding is_state
      state e = q.state ∙ (both (has_format c && has_kinds c) (state-stays a c t.head ∙ e)).0

      pub kept_next : KeptNext p k next a b
      kept_next = record {
        head = λ h j l m f. q.stays.same h j m f ∙ t.head h j l m;
        state = state;
        sheet = sheet-beside c b q.stays ∙ sheet-stays a c t.head;
        progress = q.progress;
        gap = q.gap ∙ t.head 0 7 (omega arith) (omega arith);
        live = q.live;
        raw = q.raw;
        small = small_same c b next.from next.count same small;
        found = λ v lines planned.
            found-same c b next.from next.count same small v
            ∙ subst (λ (n : ℕ). found_in v next.count c n ≡ found_in v next.count a n) (sym can.to) (t.found v lines planned);
        stops = λ j l i m.
            behind (next.from + j) (stopped_part + i) (omega (arith, past)) (omega (arith, p.few_clocks))
            ∙ subst (λ (n : ℕ). StopsStay p (n + j) a c) (sym can.to) (t.stops j l) i m;
        nothing = λ before n s. beside_same next.count next.from c b past behind
            (subst (λ (n : ℕ). NothingBeside p next.count n c) (sym can.to) (t.nothing before n s));
      }
