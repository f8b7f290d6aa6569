-- What is read of a state: those held say the last answer, and read back they are the monitor as a struct. Assumes nothing.
use Rattle.std.specs.Prelude.{Ok, Err}
use mathlib.Core.Bool.{true, false}
use mathlib.Core.List.{List, []}
use mathlib.Core.Path.{◌≡◌, refl, sym, ap, ap₂, ◌∙◌, subst}
use Prim.Native.Nat.{ℕ, ◌≤◌}
use native.Mathlib.Omega.{arith}
use Rattle.records.specs.declared.sheet.Sheet.{Sheet}
use Rattle.records.specs.Outcome.{taken}
use Rattle.records.specs.Sheet.{SheetValue, sheet_value, sheet_of}
use Rattle.judge.specs.declared.answer.Answer as code
use Rattle.records.specs.declared.refusal.Refusal.TheVariants.{MonitorLimits}
use Rattle.judge.specs.declared.progress.Progress.{Progress}
use Rattle.lent.specs.declared.live.FoundState.{FoundState}
use Rattle.judge.specs.declared.monitor.Monitor.{Monitor}
use Rattle.records.specs.declared.refusal.Refusal.{Refusal}
use Rattle.judge.specs.declared.monitor.CallResult.{CallResult}
use Rattle.judge.specs.Answer.{answer_of, reply_of, said_by}
use Rattle.step.specs.Apply.{found_in, FewOwedIn}
use Rattle.judge.specs.Stored.{FindingRows, FromRows}
use Rattle.judge.specs.Monitor.{held_by, blank_monitor, no_monitor, refused_call}
use Rattle.judge.specs.Progress.{given, read_back, ReadBack}
use Rattle.lent.specs.State.{state_sheet, state_progress, state_monitor}
use Rattle.lent.specs.Live.{state_within, SaidIn, GivenIn}
use Rattle.lent.specs.Found.{FoundOne}
use Rattle.judge.proofs.progress.Laws.{held_rows, same_back, within-back, follows-back, nothing-back}
use Rattle.lent.proofs.live.Stored.{tags-blank}
use Rattle.lent.proofs.live.Observing.{side, small, instants-held, no-instants}

false-true : {X : Type 0} → false ≡ true → X
false-true e = let z : ◌≡◌ {A = ℕ} 0 1 = cc in absurd (omega arith)

-- ---- none is found
module _ {w : List ℕ} (out : state_within w ≡ false) where
  pub said-none : SaidIn (record { reply = Err MonitorLimits; instants = 0 }) w
  said-none = record { outside = λ e. refl; inside = λ e. false-true (sym out ∙ e); instants = sym (no-instants w out) }

  pub given-none : {s : Sheet} {m : Monitor} {r : CallResult Refusal} → s ≡ sheet_of (record { clocks = 0; lines = [] }) → m ≡ blank_monitor s → r ≡ refused_call MonitorLimits m → GivenIn r w
  unfolding no_monitor state_within
  given-none a b c = record {
    outside = λ e. record { reply = ap (λ (x : CallResult Refusal). reply_of x.reply) c; monitor = ap (λ (x : CallResult Refusal). x.monitor) c ∙ b ∙ ap blank_monitor a };
    inside = λ e. false-true (sym out ∙ e);
    held = λ e. false-true (sym out ∙ e);
    monitor = λ e. false-true (sym out ∙ e);
    unused = λ e. false-true (sym out ∙ e);
    follows = λ s run g. false-true (sym out ∙ rw g.state g.follows.limits);
  }

-- ---- one is found
module _ {w : List ℕ} {f : FoundState} {lines : List ℕ} (found : FoundOne w f lines) where
  pub can-say : (f.progress.from ≤ 39) × FewOwedIn f.progress.count w f.progress.from
  can-say = subst (λ (k : Progress). (k.from ≤ 39) × FewOwedIn k.count w k.from) (sym found.progress) ((side found).one, small found)

  pub can-read : FindingRows w f.progress.count f.progress.from
  can-read = record { side = can-say.0; small = can-say.1 }

  abbrev Says : code.Answer → Type 0
  Says y = (v : SheetValue) → answer_of y ≡ said_by (found_in v f.progress.count w f.progress.from)

  said : (y : code.Answer) → Says y → reply_of (Ok y) ≡ taken (said_by (held_by (state_monitor w)))
  said y says =
      let v = sheet_value (state_sheet w) in
      let k = state_progress w in
      ap taken (subst (λ (x : Progress). answer_of y ≡ said_by (found_in v x.count w x.from)) found.progress (says v) ∙ ap said_by (sym (held_rows w k.from v k.count)))

  pub said-one : {y : code.Answer} → Says y → SaidIn (record { reply = Ok y; instants = f.progress.instants }) w
  said-one {y} says = record {
    outside = λ e. false-true (sym e ∙ found.within);
    inside = λ e. said y says;
    instants = ap (λ (k : Progress). k.instants) found.progress ∙ sym (instants-held w found.within);
  }

  -- read back
  module _ {s : Sheet} (e : s ≡ state_sheet w) {m : Monitor} (read : ReadBack s f.progress f.plan m w) where
    back : FromRows f.plan (state_progress w).count (state_progress w).from m.held.remainders w
    back = subst (λ (k : Progress). FromRows f.plan k.count k.from m.held.remainders w) found.progress read.found

    same : m ≡ read_back (state_sheet w) (state_progress w) m.held.remainders
    same = read.same ∙ ap₂ (λ (a : Sheet) (k : Progress). read_back a k m.held.remainders) e found.progress

    pub given-one : {y : code.Answer} → Says y → GivenIn (given (Ok y) m) w
    given-one {y} says =
        subst (λ (x : Monitor). GivenIn (given (Ok y) x) w) (sym same)
        (record {
          outside = λ o. false-true (sym o ∙ found.within);
          inside = λ o. (said y says, within-back found.ready back);
          held = λ o. same_back found.ready back;
          monitor = λ o. refl;
          unused = λ o n. nothing-back found.ready back (tags-blank w found.ready.planned.few-clocks n);
          follows = λ v run g. follows-back found.ready back g.follows;
        })
