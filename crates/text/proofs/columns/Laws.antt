-- The tags of a log's instants, a line each: an instant is taken for what the plain machine takes it for, so the lines put so far and those from here on are the lines of the log. Assumes nothing.
use mathlib.Core.List.{List, [], ◌∷◌, ◌++◌, append-nil, append_assoc}
use mathlib.Core.Path.{◌≡◌, refl, sym, ap, ◌∙◌}
use Prim.Native.Nat.{ℕ, zero, suc, ◌+◌, ◌≤◌, ◌<◌}
use native.Mathlib.Numerals.{add-one}
use native.Mathlib.Omega.{arith}
use lib.IntN.{ℤ, pos}
use lib.ListN.{length, take, drop, get_or, length-append, drop_of_length-le}
use lib.Seq.{take-suc}
use Rattle.std.specs.Prelude.{Option, Some, None, Result, Ok, Err}
use Rattle.records.specs.declared.refusal.Refusal.{Refusal}
use Rattle.records.specs.declared.record.Record.{Record}
use Rattle.records.specs.declared.instant.Instant as code
use Rattle.records.specs.declared.sheet.Sheet.{Sheet}
use Rattle.records.specs.Outcome.{Outcome, taken, refused, outcome_of}
use Rattle.records.specs.Refusal.{refusal_number}
use Rattle.records.specs.Record.{record_at, span_of, record_span, TheRecord}
use Rattle.records.specs.declared.order.Order.TheVariants.{Rising}
use Rattle.records.specs.Sheet.{SheetValue, read_sheet, sheet_read}
use Rattle.records.specs.Instant.{Cell, InstantValue, instant_read}
use Rattle.records.specs.Store.{puts}
use Rattle.records.specs.Types.{IsByte, IsBytes}
use Rattle.records.specs.Next.{read_next}
use Rattle.records.proofs.Lists.{all_take, all_drop}
use Rattle.records.proofs.Store.{puts-both, length-puts}
use Rattle.records.proofs.record.Cut.{no_pieces}
use Rattle.records.proofs.instant.Read.{Read, read-refused, read_done, places-in-use}
use Rattle.records.proofs.instant.RoundTrip.{read-writes}
use Rattle.records.proofs.sheet.Read.{sheet-refused}
use Rattle.records.proofs.next.Laws.{NextRead, next-read}
use Rattle.tesl.specs.Lists.{flat_map}
use Rattle.tesl.specs.Run.{Instant, tags_of}
use Rattle.tesl.specs.Machine.{judged_part, accepts, list_after, accepts_each, calls_of}
use Rattle.theory.proofs.Accepted.{accepts-as}
use Rattle.theory.proofs.Log.{next-accepts}
use Rattle.theory.proofs.Opened.{read-limits}
use Rattle.judge.proofs.monitor.Opened.{SheetTaken, sheet-taken}
use Rattle.text.specs.Text.{column_line, refusal_line}
use Rattle.text.specs.Output.{tag_lines, columns_text, printed, printed_as}
use Rattle.text.specs.Built.{tags_text, clocks_only, instants_text, InstantsReady}
use Rattle.text.proofs.put.Laws.{putting-start, Printing, printed-end, printed-refused, taken-room, printing-more}
use Rattle.text.proofs.put.Laws as put

-- ---- the tags of an instant

lines_snoc : (ts : List ℤ) (t : ℤ) → flat_map column_line (ts ++ (t ∷ [])) ≡ flat_map column_line ts ++ column_line t
lines_snoc [] t = append-nil (column_line t)
lines_snoc (u ∷ ts) t = ap (λ (bytes : List ℕ). column_line u ++ bytes) (lines_snoc ts t) ∙ sym (append_assoc (column_line u) (flat_map column_line ts) (column_line t))

pub tags-more : (tags : List ℤ) (i : ℕ) → i < length tags → tags_text (i + 1) tags ≡ tags_text i tags ++ column_line (get_or tags i (pos 0))
tags-more tags i h = rw (add-one, take-suc tags i (pos 0) h) (lines_snoc (take i tags) (get_or tags i (pos 0)))

-- those of the first i clocks have no more bytes than those of the first n
pub tags-fewer : (tags : List ℤ) (i n : ℕ) → i ≤ n → length (tags_text i tags) ≤ length (tags_text n tags)
tags-fewer tags zero n h = omega arith
tags-fewer tags (suc i) zero h = absurd (omega arith)
tags-fewer [] (suc i) (suc n) h = omega arith
tags-fewer (t ∷ tags) (suc i) (suc n) h =
    omega (arith, tags-fewer tags i n (omega arith), length-append (column_line t) (tags_text i tags), length-append (column_line t) (tags_text n tags))

-- the lines of the first i of n tags are put
pub record Listing (at : ℕ) (tags : List ℤ) (n : ℕ) (out₀ out : List ℕ) (end i : ℕ) : Type 0 where
  pub turns : i ≤ n
  pub few : n ≤ length tags
  pub room : at + length (tags_text n tags) ≤ length out₀
  pub ends : end ≡ at + length (tags_text i tags)
  pub stored : out ≡ puts out₀ at (tags_text i tags)

module _ {at n end i : ℕ} {tags : List ℤ} {out₀ out : List ℕ} (w : Listing at tags n out₀ out end i) where
  pub listing-size : length out ≡ length out₀
  listing-size = rw w.stored (length-puts out₀ at (tags_text i tags))

  module _ (h : i < n) where
    abbrev line : List ℕ
    line = column_line (get_or tags i (pos 0))

    more : tags_text (i + 1) tags ≡ tags_text i tags ++ line
    more = tags-more tags i (omega (arith, w.few))

    pub line-room : end + length line ≤ length out
    line-room =
        omega (arith, w.ends, w.room, listing-size, length-append (tags_text i tags) line, ap length more, tags-fewer tags (i + 1) n (omega arith))

    pub listing-more : {next : List ℕ} {last : ℕ} → next ≡ puts out end line → last ≡ end + length line → Listing at tags n out₀ next last (i + 1)
    listing-more q f = record {
      turns = omega arith;
      few = w.few;
      room = w.room;
      ends = omega (arith, w.ends, length-append (tags_text i tags) line, ap length more);
      stored = puts-both out₀ at (tags_text i tags) line w.stored (q ∙ rw w.ends) ∙ rw more;
    }

-- ---- what an instant is taken for asks for the clock count only

pub same-clocks : (s t : SheetValue) → s.clocks ≡ t.clocks → (run : List Instant) (calls : List (List ℕ)) → accepts_each s run calls ≡ accepts_each t run calls
unfolding accepts_each accepts
same-clocks s t e run [] = refl
same-clocks s t e run (bytes ∷ calls) =
    let k : accepts s run bytes ≡ accepts t run bytes = rw e in
    ap (λ (more : List (Outcome Instant)). accepts s run bytes ∷ more) (same-clocks s t e (list_after run (accepts s run bytes)) calls) ∙ rw k

-- a record's bytes are bytes
pub span-bytes : (b : List ℕ) (i : ℕ) → IsBytes b → {p : List ℕ} → p ≡ record_span b i → IsBytes p
unfolding record_span
span-bytes b i h e = rw e (by-record (record_at b i))
  where
    by-record : (r : Option Record) → IsBytes (span_of (drop i b) r)
    by-record None = all_drop IsByte i b h
    by-record (Some r) = all_take IsByte (4 + r.len) (drop i b) (all_drop IsByte i b h)

-- ---- a turn

pub record Telling (c : ℕ) (log out₀ out : List ℕ) (n end at : ℕ) : Type 0 where
  pub run : List Instant
  pub counted : n ≡ length run
  pub printing : Printing tag_lines (instants_text c log) out₀ out end (length run) (accepts_each (clocks_only c) run (calls_of (drop at log)))

pub telling-start : (c : ℕ) (log out : List ℕ) → Telling c log out out 0 0 0
telling-start c log out = record { run = []; counted = refl; printing = record { putting = putting-start (instants_text c log) out } }

module _ {c : ℕ} {log out₀ out : List ℕ} {n end at : ℕ} (w : Telling c log out₀ out n end at) (ready : InstantsReady c log out₀) where
  pub told-end : length log ≤ at → printed_as end out ≡ printed (instants_text c log) out₀
  unfolding accepts_each
  told-end h = printed-end w.printing ready.room (rw (drop_of_length-le log {i = at} h, no_pieces))

  module _ {p : List ℕ} (h : TheRecord log at p) where
    -- what the records from this one on are taken for
    outcomes : accepts_each (clocks_only c) w.run (calls_of (drop at log)) ≡ accepts (clocks_only c) w.run p ∷ accepts_each (clocks_only c) (list_after w.run (accepts (clocks_only c) w.run p)) (calls_of (drop (at + length p) log))
    outcomes = next-accepts h (clocks_only c) w.run

    module _ {k : ℕ} (e : accepts (clocks_only c) w.run p ≡ refused k) where
      pub refused-room : end + length (refusal_line k) ≤ length out
      refused-room = put.refused-room w.printing ready.room (rw e at outcomes)

      pub told-refused : {next : List ℕ} {last : ℕ} → next ≡ puts out end (refusal_line k) → last ≡ end + length (refusal_line k) → printed_as last next ≡ printed (instants_text c log) out₀
      told-refused q f = printed-refused w.printing ready.room (rw e at outcomes) q f

    -- what the machine takes the record for
    taken-for : {o : Outcome InstantValue} → read_next c n p ≡ o → accepts (clocks_only c) w.run p ≡ judged_part o
    taken-for q = accepts-as (clocks_only c) w.run p refl (sym w.counted) q

    module _ {x : Result code.Instant Refusal} (r : outcome_of x ≡ instant_read (read_next c n p)) where
      -- 12 to 16, 19
      pub reading-refused : {k : Refusal} → x ≡ Err k → accepts (clocks_only c) w.run p ≡ refused (refusal_number k)
      reading-refused q = taken-for (read-refused (read_next c n p) r q)

      module _ {v : code.Instant} (q : x ≡ Ok v) where
        was_read : Read (read_next c n p) v
        was_read = read_done (read_next c n p) r q

        is-next : NextRead c n p was_read.value
        is-next = next-read c n p was_read.is

        pub few-taken : n < 4000
        few-taken = is-next.room

        abbrev cells : List Cell
        cells = was_read.value.cells

        module _ (bytes : IsBytes p) where
          -- the tags in use are the instant's
          tags-read : tags_text c v.tags ≡ flat_map column_line (tags_of cells)
          tags-read =
              ap (λ (i : code.Instant). tags_text c i.tags) was_read.struct ∙ (ap (flat_map column_line) (places-in-use (λ (cell : Cell). cell.tag) (pos 0) c cells (read-writes c p bytes is-next.read).size))

          taken-first : accepts_each (clocks_only c) w.run (calls_of (drop at log)) ≡ taken cells ∷ accepts_each (clocks_only c) (w.run ++ (cells ∷ [])) (calls_of (drop (at + length p) log))
          taken-first = rw (taken-for was_read.is) at outcomes

          pub tags-room : end + length (tags_text c v.tags) ≤ length out
          tags-room = taken-room w.printing ready.room taken-first tags-read

          pub told_more : {next : List ℕ} {last : ℕ} → next ≡ puts out end (tags_text c v.tags) → last ≡ end + length (tags_text c v.tags)
              → Telling c log out₀ next (n + 1) last (at + length p)
          told_more q f =
              let more : length (w.run ++ (cells ∷ [])) ≡ suc (length w.run) = omega (arith, length-append w.run (cells ∷ [])) in
              record {
                run = w.run ++ (cells ∷ []);
                counted = omega (arith, w.counted);
                printing = rw more (printing-more w.printing ready.room taken-first tags-read q f);
              }

-- ---- the sheet

text_of : (sheet log : List ℕ) (s : SheetValue) → read_sheet sheet ≡ taken s → columns_text sheet log ≡ instants_text s.clocks log
unfolding columns_text
text_of sheet log s f = rw (f, same-clocks s (clocks_only s.clocks) refl [] (calls_of log))

module _ (sheet log : List ℕ) {x : Result Sheet Refusal} (r : outcome_of x ≡ sheet_read (read_sheet sheet)) where
  pub text-refused : {why : Refusal} → x ≡ Err why → columns_text sheet log ≡ refusal_line (refusal_number why)
  unfolding columns_text
  text-refused q = rw (sheet-refused (read_sheet sheet) x r q)

  module _ {value : Sheet} (q : x ≡ Ok value) where
    abbrev read : SheetTaken Rising 24 sheet value
    read = sheet-taken Rising 24 sheet r q

    as_many : value.clocks ≡ read.value.clocks
    as_many = ap (λ (s : Sheet). s.clocks) read.is

    pub text-read : columns_text sheet log ≡ instants_text value.clocks log
    text-read = text_of sheet log read.value read.read ∙ ap (λ (c : ℕ). instants_text c log) (sym as_many)

    pub clocks-read : IsBytes sheet → value.clocks ≤ 8
    clocks-read bytes = omega (arith, as_many, (read-limits Rising 24 sheet bytes read.read).clocks-most)
