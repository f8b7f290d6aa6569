-- The lift examples L1 to L11 of document 01, and our own (refused calls, numbered instants, the whole log, the lines in another order, a product beyond 16 bits, a delay counted in ticks, the end of the scale): one statement, a row each, by computation. Assumes nothing.
use Rattle.std.specs.Prelude.{Bool, true, false, List, [], ◌∷◌, ◌++◌, map, ◌≡◌, refl, ℕ, ℤ, pos, negsuc, drop}
use Rattle.records.specs.declared.instant.Tick.{Tick}
use Rattle.records.specs.declared.instant.Tick.TheVariants.{Idle, Ticks, Unseen}
use Rattle.records.specs.declared.line.Line.{Line}
use Rattle.records.specs.declared.line.Line.TheVariants.{Sporadic, Relation, Implies, Excludes, Delayed, Weakly, Strictly, Kills, Counted}
use Rattle.records.specs.Outcome.{taken, refused}
use Rattle.records.specs.Lists.{joined}
use Rattle.records.specs.Word.{signed, tag_of}
use Rattle.records.specs.Record.{is_torn, front, cut}
use Rattle.records.specs.Line.{length_of, clocks_of, line_of}
use Rattle.records.specs.Order.{above}
use Rattle.records.specs.Sheet.{SheetValue, read_by, read_sheet, read_base}
use Rattle.records.specs.Instant.{tick_of, raw_cells, read_instant}
use Rattle.records.specs.Next.{read_next}
use Rattle.tesl.specs.Run.{Instant, fillings, run_fillings}
use Rattle.tesl.specs.Fits.{Countdown, fits}
use Rattle.tesl.specs.Remainder.{Remainder, remainder, same_remainder, owes, counts, overfull, is_clear}
use Rattle.tesl.specs.Answer.{exhausted, broken, holding, clear, owed, remainders, too_many, over, judged, answer_within, answer}
use Rattle.tesl.specs.Machine.{accepts, machine, session, judge_log}

-- a sheet of c clocks with one line
abbrev sheet : ℕ → Line → SheetValue
sheet c l = record { clocks = c; lines = l ∷ [] }

-- an instant of one clock, and of two
abbrev one : Tick → ℤ → Instant
one t g = record { tick = t; tag = g } ∷ []

abbrev two : Tick → ℤ → Tick → ℤ → Instant
two t g u h = record { tick = t; tag = g } ∷ record { tick = u; tag = h } ∷ []

-- which fillings of a run fit
abbrev fitting : SheetValue → List Instant → List Bool
fitting s run = map (fits s) (run_fillings run)

-- 0 delayed by d on 0 implies 1; clock 1 idle unless named
abbrev delay : ℕ → SheetValue
delay d = sheet 2 (Delayed 0 0 1 d)

abbrev alone : Tick → ℕ → Instant
alone t g = two t (pos g) Idle (pos 0)

abbrev eight : List Instant
eight = map (alone Ticks) (1 ∷ 2 ∷ 3 ∷ 4 ∷ 5 ∷ 6 ∷ 7 ∷ 8 ∷ [])

abbrev five : List Instant
five = map (alone Unseen) (1 ∷ 2 ∷ 3 ∷ 4 ∷ 5 ∷ [])

-- L7: 0 sporadic -1 on 1; the first instant idle at -1, and then a second -1, or 0
abbrev reading : SheetValue
reading = sheet 2 (Sporadic 0 1 (negsuc 0))

abbrev idle : Instant
idle = two Idle (pos 0) Idle (negsuc 0)

-- the listing: the sheet's bytes and the five records
abbrev lift : List ℕ
lift = 0x01 ∷ 0x00 ∷ 0x01 ∷ 0x00 ∷ 0x02 ∷ 0x05 ∷ 0x00 ∷ 0x14 ∷ 0x00 ∷ 0x00 ∷ 0x00 ∷ 0x01 ∷ 0x02 ∷ 0x00 ∷ []

abbrev first : List ℕ
first = 0x06 ∷ 0x00 ∷ 0x20 ∷ 0x00 ∷ 0x01 ∷ 0xFD ∷ 0xFF ∷ 0x00 ∷ 0x00 ∷ 0x00 ∷ []

abbrev second : List ℕ
second = 0x06 ∷ 0x00 ∷ 0x20 ∷ 0x00 ∷ 0x02 ∷ 0xFE ∷ 0xFF ∷ 0x00 ∷ 0x00 ∷ 0x00 ∷ []

abbrev third : List ℕ
third = 0x06 ∷ 0x00 ∷ 0x20 ∷ 0x00 ∷ 0x00 ∷ 0xFF ∷ 0xFF ∷ 0x01 ∷ 0x00 ∷ 0x00 ∷ []

abbrev fourth_record : List ℕ
fourth_record = 0x06 ∷ 0x00 ∷ 0x20 ∷ 0x00 ∷ 0x00 ∷ 0x01 ∷ 0x00 ∷ 0x00 ∷ 0x00 ∷ 0x00 ∷ []

abbrev fifth : List ℕ
fifth = 0x06 ∷ 0x00 ∷ 0x20 ∷ 0x00 ∷ 0x00 ∷ 0x00 ∷ 0x00 ∷ 0x00 ∷ 0x00 ∷ 0x00 ∷ []

abbrev instants : List (List ℕ)
instants = first ∷ second ∷ third ∷ fourth_record ∷ fifth ∷ []

-- a record of the listing as kind 33, its number's two bytes before its clocks
abbrev numbered : ℕ → ℕ → List ℕ → List ℕ
numbered low high plain = 0x08 ∷ 0x00 ∷ 0x21 ∷ 0x00 ∷ low ∷ high ∷ drop 4 plain

-- the line '0 weakly precedes 1'; and the listing's sheet with that line before its own, and once more behind it
abbrev precedes : List ℕ
precedes = 0x02 ∷ 0x00 ∷ 0x15 ∷ 0x00 ∷ 0x00 ∷ 0x01 ∷ []

abbrev disordered : List ℕ
disordered = 0x01 ∷ 0x00 ∷ 0x01 ∷ 0x00 ∷ 0x02 ∷ (precedes ++ (0x05 ∷ 0x00 ∷ 0x14 ∷ 0x00 ∷ 0x00 ∷ 0x00 ∷ 0x01 ∷ 0x02 ∷ 0x00 ∷ precedes))

-- the first record with kind 31, and with tick byte 3
abbrev other_kind : List ℕ
other_kind = 0x06 ∷ 0x00 ∷ 0x1F ∷ 0x00 ∷ 0x01 ∷ 0xFD ∷ 0xFF ∷ 0x00 ∷ 0x00 ∷ 0x00 ∷ []

abbrev tick_three : List ℕ
tick_three = 0x06 ∷ 0x00 ∷ 0x20 ∷ 0x00 ∷ 0x03 ∷ 0xFD ∷ 0xFF ∷ 0x00 ∷ 0x00 ∷ 0x00 ∷ []

-- a delay counted in ticks: a valve (clock 0), stroke pulses (clock 1) and a reading (clock 2), with a second valve (clock 3); all tags are 0
abbrev lift4 : Tick → Tick → Tick → Tick → Instant
lift4 a b d e =
    record { tick = a; tag = pos 0 }
    ∷ record { tick = b; tag = pos 0 }
    ∷ record { tick = d; tag = pos 0 }
    ∷ record { tick = e; tag = pos 0 }
    ∷ []

-- the valve moves; a pulse; a pulse with a reading
abbrev moves : Instant
moves = lift4 Ticks Idle Idle Idle

abbrev pulse : Instant
pulse = lift4 Idle Ticks Idle Idle

abbrev pulse_read : Instant
pulse_read = lift4 Idle Ticks Ticks Idle

-- the reading on the n-th pulse after the valve moves
abbrev on_pulse : ℕ → SheetValue
on_pulse n = sheet 4 (Counted 0 1 2 n)

-- each remainder's ticks still wanted
abbrev still_wanted : SheetValue → List Instant → List (List ℕ)
still_wanted s run = map (λ (r : Remainder). map (λ (c : Countdown). c.wanted) r.countdowns) (remainders s run)

-- each tick of clock 0 counts clock 0's own ticks to 255; and begins a delay too
abbrev own_ticks : Line
own_ticks = Counted 0 0 1 255

abbrev both : SheetValue
both = record { clocks = 2; lines = Delayed 0 0 1 100 ∷ own_ticks ∷ [] }

-- nine instants up to the end of the scale
abbrev last_nine : Tick → List Instant
last_nine t = map (alone t) (32759 ∷ 32760 ∷ 32761 ∷ 32762 ∷ 32763 ∷ 32764 ∷ 32765 ∷ 32766 ∷ 32767 ∷ [])

-- a long lift: clock 0 ticks at 32,600, and the reading, clock 1, is made at 32,700
abbrev long_lift : List Instant
long_lift = alone Ticks 32600 ∷ two Idle (pos 32700) Ticks (pos 0) ∷ []

pub record Examples : Type 0 where
  -- raw 65533 is -3; 32767 is 32,767; 32768 is -32,768
  L1 : (tag_of 65533 ≡ negsuc 2) × (tag_of 32767 ≡ pos 32767) × (tag_of 32768 ≡ negsuc 32767)
  -- sporadic line, no instant: fits, owed, live 1
  L2 : (fitting (sheet 2 (Sporadic 0 1 (pos 5))) [] ≡ true ∷ []) × (answer (sheet 2 (Sporadic 0 1 (pos 5))) [] ≡ holding 1 owed)
  -- 0 excludes 0: a tick doesn't fit. 0 implies 0: unseen leaves live 1, from two fillings
  L3 :
      (fitting (sheet 1 (Excludes 0 0)) (one Ticks (pos 0) ∷ []) ≡ false ∷ [])
      × (answer (sheet 1 (Excludes 0 0)) (one Ticks (pos 0) ∷ []) ≡ broken)
      × (fitting (sheet 1 (Implies 0 0)) (one Unseen (pos 0) ∷ []) ≡ true ∷ true ∷ [])
      × (answer (sheet 1 (Implies 0 0)) (one Unseen (pos 0) ∷ []) ≡ holding 1 clear)
  -- first instant, both tick: weak precedence fits, strict doesn't
  L4 :
      (fitting (sheet 2 (Weakly 0 1)) (two Ticks (pos 0) Ticks (pos 0) ∷ []) ≡ true ∷ [])
      × (answer (sheet 2 (Weakly 0 1)) (two Ticks (pos 0) Ticks (pos 0) ∷ []) ≡ holding 1 clear)
      × (fitting (sheet 2 (Strictly 0 1)) (two Ticks (pos 0) Ticks (pos 0) ∷ []) ≡ false ∷ [])
      × (answer (sheet 2 (Strictly 0 1)) (two Ticks (pos 0) Ticks (pos 0) ∷ []) ≡ broken)
  -- 0 kills 1, both tick together: doesn't fit; 1 unseen: live 1
  L5 :
      (fitting (sheet 2 (Kills 0 1)) (two Ticks (pos 0) Ticks (pos 0) ∷ []) ≡ false ∷ [])
      × (answer (sheet 2 (Kills 0 1)) (two Ticks (pos 0) Ticks (pos 0) ∷ []) ≡ broken)
      × (fitting (sheet 2 (Kills 0 1)) (two Ticks (pos 0) Unseen (pos 0) ∷ []) ≡ true ∷ false ∷ [])
      × (answer (sheet 2 (Kills 0 1)) (two Ticks (pos 0) Unseen (pos 0) ∷ []) ≡ holding 1 clear)
  -- 0 = 60 × 1 + 0: tags -60, -1 fit; -59, -1 don't
  L6 :
      (fitting (sheet 2 (Relation 0 1 (pos 60) (pos 0))) (two Idle (negsuc 59) Idle (negsuc 0) ∷ []) ≡ true ∷ [])
      × (answer (sheet 2 (Relation 0 1 (pos 60) (pos 0))) (two Idle (negsuc 59) Idle (negsuc 0) ∷ []) ≡ holding 1 clear)
      × (fitting (sheet 2 (Relation 0 1 (pos 60) (pos 0))) (two Idle (negsuc 58) Idle (negsuc 0) ∷ []) ≡ false ∷ [])
      × (answer (sheet 2 (Relation 0 1 (pos 60) (pos 0))) (two Idle (negsuc 58) Idle (negsuc 0) ∷ []) ≡ broken)
  -- idle at -1 fits, a tick at a second -1 meets it; 0 instead breaks
  L7 :
      (fitting reading (idle ∷ []) ≡ true ∷ [])
      × (answer reading (idle ∷ []) ≡ holding 1 owed)
      × (fitting reading (idle ∷ two Ticks (pos 0) Idle (negsuc 0) ∷ []) ≡ true ∷ [])
      × (answer reading (idle ∷ two Ticks (pos 0) Idle (negsuc 0) ∷ []) ≡ holding 1 clear)
      × (fitting reading (idle ∷ two Ticks (pos 0) Idle (pos 0) ∷ []) ≡ false ∷ [])
      × (answer reading (idle ∷ two Ticks (pos 0) Idle (pos 0) ∷ []) ≡ broken)
  -- d = 0, clocks 0 and 1 ticking together: still owed
  L8 : answer (delay 0) (two Ticks (pos 0) Ticks (pos 0) ∷ []) ≡ holding 1 owed
  -- d = 100, eight ticks at tags 1 to 8: eight owed, holding; a ninth at 9: exhausted
  L9 :
      (map owes (remainders (delay 100) eight) ≡ 8 ∷ [])
      × (answer (delay 100) eight ≡ holding 1 owed)
      × (map owes (remainders (delay 100) (eight ++ (alone Ticks 9 ∷ []))) ≡ 9 ∷ [])
      × (answer (delay 100) (eight ++ (alone Ticks 9 ∷ [])) ≡ exhausted)
  -- d = 100, unseen at tags 1 to 5: live 32; at 6: exhausted
  L10 : (answer (delay 100) five ≡ holding 32 clear) × (answer (delay 100) (five ++ (alone Unseen 6 ∷ [])) ≡ exhausted)
  -- the listing, from its bytes: what opening answers, and each instant
  L11 :
      session read_sheet lift instants
      ≡ record {
        opening = taken (holding 1 clear);
        replies = taken (holding 1 owed) ∷ taken (holding 2 owed) ∷ taken (holding 2 clear) ∷ taken (holding 1 clear) ∷ taken broken ∷ [];
      }
  -- the same lift with a second line; its lines in another order, one of them repeated, are answered alike by document 01's rules, and are 17 in rising order
  any_order :
      (session read_sheet (lift ++ precedes) instants
      ≡ record {
        opening = taken (holding 1 clear);
        replies = taken (holding 1 owed) ∷ taken (holding 2 owed) ∷ taken (holding 2 clear) ∷ taken (holding 1 clear) ∷ taken broken ∷ [];
      })
      × (session read_base disordered instants ≡ session read_sheet (lift ++ precedes) instants)
      × (session read_sheet disordered instants ≡ record { opening = refused 17; replies = [] })
  -- refused calls among them change nothing and get their numbers: no bytes, kind 31, tick byte 3
  calls :
      session read_sheet lift (first ∷ [] ∷ other_kind ∷ tick_three ∷ second ∷ [])
      ≡ record {
        opening = taken (holding 1 clear);
        replies = taken (holding 1 owed) ∷ refused 12 ∷ refused 13 ∷ refused 15 ∷ taken (holding 2 owed) ∷ [];
      }
  -- the listing with numbers, and with some: answered as the listing; plain ones count among those held
  mixed : session read_sheet lift (numbered 1 0 first ∷ second ∷ numbered 3 0 third ∷ fourth_record ∷ numbered 5 0 fifth ∷ []) ≡ session read_sheet lift instants
  -- 0 is never next, nor is 257 for 1; a repeated number and one too high are refused and change nothing; the one that is wanted is taken when it comes
  out_of_turn :
      session read_sheet lift (numbered 0 0 first ∷ numbered 1 1 first ∷ numbered 1 0 first ∷ numbered 1 0 first ∷ numbered 3 0 third ∷ numbered 2 0 second ∷ [])
      ≡ record {
        opening = taken (holding 1 clear);
        replies = refused 19 ∷ refused 19 ∷ taken (holding 1 owed) ∷ refused 19 ∷ refused 19 ∷ taken (holding 2 owed) ∷ [];
      }
  -- the whole log: the last answer and the count; opening's for an empty log; a torn and a faulty record with the count before it; the sheet's own number first; a number that is skipped
  log :
      (judge_log lift (joined instants) ≡ record { outcome = taken broken; instants = 5 })
      × (judge_log lift [] ≡ record { outcome = taken (holding 1 clear); instants = 0 })
      × (judge_log lift (first ++ second ++ (0x06 ∷ 0x00 ∷ 0x20 ∷ [])) ≡ record { outcome = refused 12; instants = 2 })
      × (judge_log lift (first ++ other_kind ++ tick_three) ≡ record { outcome = refused 13; instants = 1 })
      × (judge_log [] first ≡ record { outcome = refused 1; instants = 0 })
      × (judge_log lift (numbered 1 0 first ++ second ++ numbered 4 0 third) ≡ record { outcome = refused 19; instants = 2 })
  -- 0 = 300 × 1 + 0: tags 24464, 300 don't fit, though 300 × 300 in 16 bits is 24464
  product :
      (fitting (sheet 2 (Relation 0 1 (pos 300) (pos 0))) (two Idle (pos 24464) Idle (pos 300) ∷ []) ≡ false ∷ [])
      × (answer (sheet 2 (Relation 0 1 (pos 300) (pos 0))) (two Idle (pos 24464) Idle (pos 300) ∷ []) ≡ broken)
  -- the fourth pulse after the valve moves: owed until then, clear with a reading there, broken without; an early reading changes nothing, nor does a pulse at the move itself
  fourth :
      (answer (on_pulse 4) (moves ∷ pulse ∷ pulse ∷ pulse ∷ []) ≡ holding 1 owed)
      × (answer (on_pulse 4) (moves ∷ pulse ∷ pulse ∷ pulse ∷ pulse_read ∷ []) ≡ holding 1 clear)
      × (answer (on_pulse 4) (moves ∷ pulse ∷ pulse ∷ pulse ∷ pulse ∷ []) ≡ broken)
      × (still_wanted (on_pulse 4) (moves ∷ pulse ∷ pulse ∷ pulse_read ∷ []) ≡ (1 ∷ []) ∷ [])
      × (still_wanted (on_pulse 4) (lift4 Ticks Ticks Idle Idle ∷ []) ≡ (4 ∷ []) ∷ [])
  -- an unseen second pulse: without it one more is wanted, with it a reading is missed
  unseen_pulse :
      (answer (on_pulse 2) (moves ∷ pulse ∷ lift4 Idle Unseen Idle Idle ∷ []) ≡ holding 1 owed)
      × (answer (on_pulse 2) (moves ∷ pulse ∷ lift4 Idle Unseen Unseen Idle ∷ []) ≡ holding 2 clear)
  -- the pulse itself is what is wanted (D = B): met when it comes
  own_pulse :
      (answer (sheet 4 (Counted 0 1 1 2)) (moves ∷ pulse ∷ []) ≡ holding 1 owed)
      × (answer (sheet 4 (Counted 0 1 1 2)) (moves ∷ pulse ∷ pulse ∷ []) ≡ holding 1 clear)
  -- the valve counts itself (A = B): its next move asks for a reading there, and begins another
  own_moves :
      (answer (sheet 4 (Counted 0 0 2 1)) (moves ∷ lift4 Ticks Idle Ticks Idle ∷ []) ≡ holding 1 owed)
      × (answer (sheet 4 (Counted 0 0 2 1)) (moves ∷ moves ∷ []) ≡ broken)
  -- two that were begun apart and become equal count once
  become_equal :
      map counts (remainders (record { clocks = 4; lines = Counted 0 1 2 2 ∷ Counted 3 1 2 1 ∷ [] }) (moves ∷ lift4 Idle Ticks Idle Ticks ∷ [])) ≡ 1 ∷ []
  -- the longest count
  longest : still_wanted (on_pulse 255) (moves ∷ pulse ∷ []) ≡ (254 ∷ []) ∷ []
  -- eight counted ones hold, and eight and eight; nine counted ones are exhausted
  eight_and_eight :
      (answer (sheet 2 own_ticks) eight ≡ holding 1 owed)
      × (map owes (remainders both eight) ≡ 8 ∷ [])
      × (map counts (remainders both eight) ≡ 8 ∷ [])
      × (answer both eight ≡ holding 1 owed)
      × (answer (sheet 2 own_ticks) (eight ++ (alone Ticks 9 ∷ [])) ≡ exhausted)
  -- begun at 32,767 with d = 0: owed, and met there later; with d = 1: clear. The longest delay from −32,768 is due at 32,767 and owed; from −32,767 it isn't
  scale_end :
      (answer (delay 0) (alone Ticks 32767 ∷ []) ≡ holding 1 owed)
      × (answer (delay 0) (alone Ticks 32767 ∷ two Idle (pos 32767) Ticks (pos 0) ∷ []) ≡ holding 1 clear)
      × (answer (delay 1) (alone Ticks 32767 ∷ []) ≡ holding 1 clear)
      × (answer (delay 65535) (two Ticks (negsuc 32767) Idle (pos 0) ∷ []) ≡ holding 1 owed)
      × (answer (delay 65535) (two Ticks (negsuc 32766) Idle (pos 0) ∷ []) ≡ holding 1 clear)
  -- a long lift near the end, d = 100: owed until its reading, clear with it, and clear again after a tick at 32,700, whose due no tag reaches
  long_lift_clear :
      (answer (delay 100) (alone Ticks 32600 ∷ []) ≡ holding 1 owed)
      × (answer (delay 100) long_lift ≡ holding 1 clear)
      × (answer (delay 100) (long_lift ++ (alone Ticks 32700 ∷ [])) ≡ holding 1 clear)
  -- nine delays begun past the end, seen or unseen: holding; with d = 8 the first of the nine is due at the end, and it alone is owed
  nine_past_the_end :
      (answer (delay 100) (last_nine Ticks) ≡ holding 1 clear)
      × (answer (delay 100) (last_nine Unseen) ≡ holding 1 clear)
      × (answer (delay 8) (last_nine Ticks) ≡ holding 1 owed)
      × (map owes (remainders (delay 8) (last_nine Ticks)) ≡ 1 ∷ [])
  -- a sporadic line's due is a tag: 32,767 is owed from the start
  sporadic_at_the_end : answer (sheet 2 (Sporadic 0 1 (pos 32767))) [] ≡ holding 1 owed

pub examples : Examples
unfolding signed is_torn front cut length_of clocks_of line_of above read_by tick_of raw_cells read_instant fillings run_fillings fits remainder same_remainder owes counts overfull is_clear remainders too_many over judged answer_within read_next accepts machine session judge_log
examples = record {
  L1 = (refl, refl, refl);
  L2 = (refl, refl);
  L3 = (refl, refl, refl, refl);
  L4 = (refl, refl, refl, refl);
  L5 = (refl, refl, refl, refl);
  L6 = (refl, refl, refl, refl);
  L7 = (refl, refl, refl, refl, refl, refl);
  L8 = refl;
  L9 = (refl, refl, refl, refl);
  L10 = (refl, refl);
  L11 = refl;
  any_order = (refl, refl, refl);
  calls = refl;
  mixed = refl;
  out_of_turn = refl;
  log = (refl, refl, refl, refl, refl, refl);
  product = (refl, refl);
  fourth = (refl, refl, refl, refl, refl);
  unseen_pulse = (refl, refl);
  own_pulse = (refl, refl);
  own_moves = (refl, refl);
  become_equal = refl;
  longest = refl;
  eight_and_eight = (refl, refl, refl, refl, refl);
  scale_end = (refl, refl, refl, refl, refl);
  long_lift_clear = (refl, refl, refl);
  nine_past_the_end = (refl, refl, refl, refl);
  sporadic_at_the_end = refl;
}
