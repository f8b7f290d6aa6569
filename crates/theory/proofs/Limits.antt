-- The limits of a remainder (refusal 11): the step keeps them from any remainder and any held ones within them, and what is held after a run is within them, at most as many as there is room for with at most 8 obligations each, unless exhausted. Assumes nothing.
use mathlib.Core.Bool.{Bool, true, false, not, cond, ◌&&◌, or-false}
use mathlib.Core.List.{List, [], ◌∷◌, ◌++◌, map}
use mathlib.Core.Logic.{◌≢◌}
use mathlib.Core.Option.{Option}
use mathlib.Core.Path.{◌≡◌, sym, ◌∙◌, subst}
use Prim.Native.Nat.{ℕ, suc, ◌-◌, ◌<◌}
use native.Mathlib.Omega.{arith}
use lib.Dec.{T, T_not, not_T, leb, ltb, leb→le, le→leb, ltb→lt}
use lib.IntN.{ℤ}
use lib.ListN.{length, length-append}
use Rattle.records.specs.declared.line.Line.{Line}
use Rattle.records.specs.Sheet.{SheetValue}
use Rattle.records.specs.Types.{All, IsTag, IsLineValue, IsInstant}
use Rattle.tesl.specs.Lists.{all, any}
use Rattle.tesl.specs.Run.{Instant, ticks_of, tags_of, Filled, tag_at, fill_ticks, fillings, run_fillings}
use Rattle.tesl.specs.Fits.{most_tag, Obligation, unmet, Countdown, ticks_in, left_of, left_by, fits}
use Rattle.tesl.specs.Remainder.{Remainder, lead_of, remainder, same_remainder}
use Rattle.tesl.specs.Answer.{exhausted, remainders, answer_within}
use Rattle.theory.specs.Step.{next_lead, next_leads, next_owed, started_by, begun_countdowns, next_countdowns, next, step_ok, last_tags_of, nexts, line_below, well_formed}
use Rattle.theory.specs.Limits.{due_ok, clocks_ok, obligation_ok, least_wanted, most_wanted, countdown_ok, within_limits, HeldLimits}
use Rattle.theory.specs.Sets.{Covers}
use Rattle.theory.specs.Held.{Held, successors}
use Rattle.tesl.proofs.Tests.{and_l, and_r, and_i}
use Rattle.theory.proofs.Lists.{any-map, any-flat_map, any-imp, none_any, all-imp, all_both, all-as-any, all-flat_map, snoc-ind, snoc-each}
use Rattle.theory.proofs.LineKinds.{law}
use Rattle.theory.proofs.Owed.{append-i, start-all, next-all, start-clocks, next-clocks}
use Rattle.theory.proofs.Sets.{any-covers, any-set, distinct-set}
use Rattle.theory.proofs.Respect.{owed-equality, count-equality, all-equal, remainder-equivalence, alike}
use Rattle.theory.proofs.Fillings.{found, any-nexts, found-snoc}
use Rattle.theory.proofs.Answers.{held-few}
use Rattle.theory.proofs.Scale.{each-tag}

-- ---- one step

leads-within : (f : Filled) (held : ℕ) (ls : List Line) (ns : List ℕ) → T (all (λ (n : ℕ). leb n held) ns)
    → T (all (λ (n : ℕ). leb n (suc held)) (next_leads (next_lead f) ls ns))
leads-within f held [] ns t = tt
leads-within f held (l ∷ ls) [] t =
    let n = next_lead f l 0 in
    let ns = next_leads (next_lead f) ls [] in
    and_i (leb n (suc held)) (all (λ (n : ℕ). leb n (suc held)) ns) (le→leb n (suc held) ((law l).leads.grows f 0 held (omega arith))) (leads-within f held ls [] tt)
leads-within f held (l ∷ ls) (m ∷ ms) t =
    let n = next_lead f l m in
    let ns = next_leads (next_lead f) ls ms in
    let small = all (λ (n : ℕ). leb n held) ms in
    and_i (leb n (suc held)) (all (λ (n : ℕ). leb n (suc held)) ns)
    (le→leb n (suc held) ((law l).leads.grows f m held (leb→le m held (and_l (leb m held) small t))))
    (leads-within f held ls ms (and_r (leb m held) small t))

-- what instants leave of a countdown within its limits is within them
left-within : (c : ℕ) (later : List Filled) (x : Countdown) → T (countdown_ok c x) → T (all (countdown_ok c) (left_of later x))
left-within c later x t = by-test (ltb m x.wanted) (ltb→lt m x.wanted)
  where
    m : ℕ
    m = ticks_in x.on later

    w : ℕ
    w = x.wanted - m

    clocks : Bool
    clocks = ltb x.clock c && ltb x.on c

    by-test : (b : Bool) → (T b → m < x.wanted) → T (all (countdown_ok c) (cond b (record { clock = x.clock; on = x.on; wanted = w } ∷ []) []))
    by-test true l =
        let k = l tt in
        let least = leb least_wanted x.wanted in
        let most = leb x.wanted most_wanted in
        let few = leb→le x.wanted most_wanted (and_r least most (and_r clocks (least && most) t)) in
        and_i (clocks && (leb least_wanted w && leb w most_wanted)) true
        (and_i clocks (leb least_wanted w && leb w most_wanted) (and_l clocks (least && most) t)
        (and_i (leb least_wanted w) (leb w most_wanted) (le→leb least_wanted w (omega arith)) (le→leb w most_wanted (omega arith)))) tt
    by-test false l = tt

-- the limits cannot tell apart what is the same, however its obligations and countdowns are kept
pub same-within : (most : ℤ) (c held : ℕ) (a b : Remainder) → T (same_remainder a b) → within_limits most c held a ≡ within_limits most c held b
unfolding within_limits
same-within most c held a b t =
    let h = alike a b t in
    let test : (p : Obligation → Bool) → all p a.owed ≡ all p b.owed = λ p. all-equal owed-equality p a.owed b.owed h.owed in
    rw (test (obligation_ok most c), all-equal count-equality (countdown_ok c) a.countdowns b.countdowns h.countdowns, h.leads)

-- a sheet as it is read: clocks of lines below C, fields of their sizes
module _ (s : SheetValue) (wf : T (well_formed s)) (values : All IsLineValue s.lines) where
  begun-within : (f : Filled) → T (all (countdown_ok s.clocks) (begun_countdowns s.lines f))
  begun-within f = each s.lines wf values
    where
      each : (ls : List Line) → T (all (line_below s.clocks) ls) → All IsLineValue ls → T (all (countdown_ok s.clocks) (begun_countdowns ls f))
      each [] w v = tt
      each (l ∷ ls) w v =
          append-i (countdown_ok s.clocks) (started_by f l) (begun_countdowns ls f)
          ((law l).counts.begun-limits s.clocks f (and_l (line_below s.clocks l) (all (line_below s.clocks) ls) w) v.0)
          (each ls (and_r (line_below s.clocks l) (all (line_below s.clocks) ls) w) v.1)

  countdowns-within : (f : Filled) (cs : List Countdown) → T (all (countdown_ok s.clocks) cs) → T (all (countdown_ok s.clocks) (next_countdowns s.lines f cs))
  countdowns-within f cs t =
      let ok = countdown_ok s.clocks in
      append-i ok (left_by (f ∷ []) cs) (begun_countdowns s.lines f)
      (subst T (sym (all-flat_map ok (left_of (f ∷ [])) cs)) (all-imp ok (λ (c : Countdown). all ok (left_of (f ∷ []) c)) cs (left-within s.clocks (f ∷ [])) t))
      (begun-within f)

  pub next-within : (f : Filled) → ((k : ℕ) → IsTag (tag_at f k)) → (held : ℕ) (r : Remainder)
      → T (within_limits most_tag s.clocks held r) → T (within_limits most_tag s.clocks (suc held) (next s f r))
  unfolding within_limits next
  next-within f tags held r t =
      let clocks = clocks_ok s.clocks in
      let dues : Obligation → Bool = λ o. due_ok most_tag o.due in
      let counted = countdown_ok s.clocks in
      let small : ℕ → List ℕ → Bool = λ k. all (λ (n : ℕ). leb n k) in
      let owed = all (obligation_ok most_tag s.clocks) r.owed in
      let rest = all counted r.countdowns && small held r.leads in
      let u = and_l owed rest t in
      let v = and_r owed rest t in
      let after = next_owed most_tag s.lines f r.owed in
      let counts = next_countdowns s.lines f r.countdowns in
      let leads = next_leads (next_lead f) s.lines r.leads in
      and_i (all (obligation_ok most_tag s.clocks) after) (all counted counts && small (suc held) leads)
      (all_both clocks dues after
      (next-clocks s.clocks most_tag s.lines wf f r.owed (all-imp (obligation_ok most_tag s.clocks) clocks r.owed (λ o. and_l (clocks o) (dues o)) u))
      (next-all dues most_tag IsLineValue f (λ l v. (law l).owes.begun-dues most_tag f tags) s.lines values r.owed (all-imp (obligation_ok most_tag s.clocks) dues r.owed (λ o. and_r (clocks o) (dues o)) u)))
      (and_i (all counted counts) (small (suc held) leads)
      (countdowns-within f r.countdowns (and_l (all counted r.countdowns) (small held r.leads) v))
      (leads-within f held s.lines r.leads (and_r (all counted r.countdowns) (small held r.leads) v)))

  pub start-within : T (within_limits most_tag s.clocks 0 (remainder s []))
  unfolding within_limits remainder
  start-within =
      let dues : Obligation → Bool = λ o. due_ok most_tag o.due in
      let owed = unmet most_tag s.lines [] in
      and_i (all (obligation_ok most_tag s.clocks) owed) (all (λ (n : ℕ). leb n 0) (map (lead_of []) s.lines))
      (all_both (clocks_ok s.clocks) dues owed (start-clocks s.clocks most_tag s.lines wf)
      (start-all dues most_tag IsLineValue (λ l v. (law l).owes.start-dues v) s.lines values))
      (no-leads s.lines)
    where
      no-leads : (ls : List Line) → T (all (λ (n : ℕ). leb n 0) (map (lead_of []) ls))
      no-leads [] = tt
      no-leads (l ∷ ls) =
          and_i (leb (lead_of [] l) 0) (all (λ (n : ℕ). leb n 0) (map (lead_of []) ls))
          (le→leb (lead_of [] l) 0 (omega (arith, (law l).leads.none))) (no-leads ls)

  -- ---- the remainders of a run

  beyond : ℕ → Remainder → Bool
  beyond held r = not (within_limits most_tag s.clocks held r)

  beyond-same : (held : ℕ) (x y : Remainder) → T (same_remainder x y) → T (beyond held x) → T (beyond held y)
  unfolding beyond
  beyond-same held x y e u = subst (λ (b : Bool). T (not b)) (same-within most_tag s.clocks held x y e) u

  -- a successor beyond the limits has a remainder beyond them before it
  nexts-within : (last : Option (List ℤ)) (i : Instant) → IsInstant i → (held : ℕ) (r : Remainder) → T (any (beyond (suc held)) (nexts s last i r)) → T (beyond held r)
  unfolding beyond fillings
  nexts-within last i h held r t = not_T (within_limits most_tag s.clocks held r) (λ w.
      none_any (λ (b : List Bool). late (filled_by b)) (fill_ticks (ticks_of i))
      (λ b u. T_not (within_limits most_tag s.clocks (suc held) (next s (filled_by b) r)) (and_r (step_ok s last (filled_by b) r) (beyond (suc held) (next s (filled_by b) r)) u)
      (next-within (filled_by b) (each-tag IsTag (omega arith) i h) held r w))
      (subst T (any-nexts s last i (beyond (suc held)) r ∙ any-map late filled_by (fill_ticks (ticks_of i))) t))
    where
      filled_by : List Bool → Filled
      filled_by b = record { ticks = b; tags = tags_of i }

      late : Filled → Bool
      late f = step_ok s last f r && beyond (suc held) (next s f r)

  found_within : (run : List Instant) → All IsInstant run → T (any (beyond (length run)) (found s run)) → ⊥
  unfolding beyond fits run_fillings
  found_within = snoc-ind (λ (run : List Instant). All IsInstant run → T (any (beyond (length run)) (found s run)) → ⊥)
      (λ h t. T_not (within_limits most_tag s.clocks 0 (remainder s [])) (subst T (or-false (beyond 0 (remainder s []))) t) start-within)
      (λ run i ih h t.
      let r = snoc-each IsInstant run h in
      let n : length (run ++ (i ∷ [])) ≡ suc (length run) = omega (arith, length-append run (i ∷ [])) in
      ih r.0 (any-imp (λ (x : Remainder). any (beyond (suc (length run))) (nexts s (last_tags_of run) i x)) (beyond (length run)) (found s run) (nexts-within (last_tags_of run) i r.1 (length run))
      (subst T (found-snoc s wf run i (beyond (suc (length run)))) (subst (λ (m : ℕ). T (any (beyond m) (found s (run ++ (i ∷ []))))) n t))))

  -- ---- what is held

  -- from any held ones within the limits, whether a run has them or not, and some of their successors
  pub successors-within : (last : Option (List ℤ)) (i : Instant) → IsInstant i → (held : ℕ) (rs new : List Remainder) → Covers same_remainder new (successors s last i rs)
      → T (all (within_limits most_tag s.clocks held) rs) → T (all (within_limits most_tag s.clocks (suc held)) new)
  unfolding beyond successors
  successors-within last i h held rs new c w =
      subst T (sym (all-as-any (within_limits most_tag s.clocks (suc held)) new)) (not_T (any (beyond (suc held)) new)
      (λ t. T_not (any (beyond held) rs) (subst T (all-as-any (within_limits most_tag s.clocks held) rs) w)
      (any-imp (λ (r : Remainder). any (beyond (suc held)) (nexts s last i r)) (beyond held) rs (nexts-within last i h held)
      (subst T (any-flat_map (beyond (suc held)) (nexts s last i) rs)
      (any-covers same_remainder remainder-equivalence (beyond (suc held)) (beyond-same (suc held)) new (successors s last i rs) c t)))))

  pub held-within : (room : ℕ) (run : List Instant) (rs : List Remainder) → All IsInstant run → answer_within room s run ≢ exhausted → Held s run rs → HeldLimits most_tag room s.clocks (length run) rs
  unfolding remainders beyond
  held-within room run rs h n held =
      let few = held-few room s run rs n held in
      record {
        live = few.0;
        owe = few.1;
        within = subst T (sym (all-as-any (within_limits most_tag s.clocks (length run)) rs)) (not_T (any (beyond (length run)) rs)
            (λ t. found_within run h (subst T
            (any-set same_remainder remainder-equivalence (beyond (length run)) (beyond-same (length run)) rs (found s run)
            (λ x. held.these x ∙ distinct-set same_remainder remainder-equivalence (found s run) x)) t)));
      }
