-- Words stored in a row: what was stored is read there, and every other word stays. Assumes nothing.
use mathlib.Core.List.{List, [], ◌∷◌, ◌++◌}
use mathlib.Core.Path.{◌≡◌, refl, ap, ◌∙◌}
use Prim.Native.Nat.{ℕ, zero, suc, ◌+◌, ◌*◌, ◌<◌, ◌≤◌}
use native.Mathlib.Omega.{arith}
use lib.ListN.{length, get_or, set, length-set}
use lib.Seq.{get_or-set_same, get_or-set_other}
use Rattle.records.specs.Lists.{listed}
use Rattle.work.proofs.Listing.{listed_same, listed_next}
use Rattle.remainders.specs.declared.obligation.Obligation as code
use Rattle.remainders.specs.declared.rows.Part.{Part}
use Rattle.remainders.specs.declared.rows.Part.TheVariants.{Obligations, Countdowns}
use Rattle.remainders.specs.Rows.{parts, part_words, part_number, leads_part, height, width, all_words, word, row_count, stored_in, row_obligation, row_set, FewInRow, CountsSame, NothingInParts, Stays, RowsStay, PutObligation}

-- ---- the number of a part is below their count
pub part-inside : (p : Part) → part_number p < parts
part-inside Obligations = omega arith
part-inside Countdowns = omega arith

-- ---- one word
module _ (a : List ℕ) (i p w : ℕ) where
  pub stored : width * i + p < length a → word (set a (width * i + p) w) i p ≡ w
  stored h = get_or-set_same a (width * i + p) w 0 h

  pub stored_other : (h q : ℕ) → p < width → q < width → (h ≡ i → q ≡ p → ⊥) → word (set a (width * i + p) w) h q ≡ word a h q
  stored_other h q l m f = get_or-set_other a (width * i + p) (width * h + q) w 0 (λ e. f (omega arith) (omega arith))

-- a zero, or past the end
pub stored-zero : (a : List ℕ) (q : ℕ) → get_or (set a q 0) q 0 ≡ 0
stored-zero [] q = refl
stored-zero (w ∷ a) zero = refl
stored-zero (w ∷ a) (suc q) = stored-zero a q

-- ---- what stays
pub stays_all : (i lo hi : ℕ) (a : List ℕ) → Stays i lo hi a a
stays_all i lo hi a = record { size = refl; same = λ h p l f. refl }

module _ {i lo hi : ℕ} {a b : List ℕ} (s : Stays i lo hi a b) where
  pub stays_put : (p w : ℕ) → lo ≤ p → p < hi → hi ≤ width → Stays i lo hi a (set b (width * i + p) w)
  stays_put p w l h k =
      record {
        size = length-set b (width * i + p) w ∙ s.size;
        same = λ g q m f. stored_other b i p w g q (omega arith) m (λ e d. f e (omega arith) (omega arith)) ∙ s.same g q m f;
      }

  -- in more words
  pub stays_wide : (lo' hi' : ℕ) → lo' ≤ lo → hi ≤ hi' → Stays i lo' hi' a b
  stays_wide lo' hi' l h = record { size = s.size; same = λ g q m f. s.same g q m (λ e x y. f e (omega arith) (omega arith)) }

  pub stays_on : {c : List ℕ} → Stays i lo hi b c → Stays i lo hi a c
  stays_on t = record { size = t.size ∙ s.size; same = λ g q m f. t.same g q m f ∙ s.same g q m f }

-- ---- rows that stay
pub rows-stay-all : (first n : ℕ) (a : List ℕ) → RowsStay first n a a
rows-stay-all first n a = record { size = refl; same = λ h p l f. refl }

-- a part of one of them was stored
pub rows-stay-one : {i lo hi : ℕ} {a b : List ℕ} → Stays i lo hi a b → (first n : ℕ) → first ≤ i → i < first + n → RowsStay first n a b
rows-stay-one s first n l m = record { size = s.size; same = λ h p k f. s.same h p k (λ e x y. f (omega arith) (omega arith)) }

module _ {first n : ℕ} {a b : List ℕ} (s : RowsStay first n a b) where
  -- but for more rows, and more from the first on
  pub rows-stay-among : (f m : ℕ) → f ≤ first → first + n ≤ f + m → RowsStay f m a b
  rows-stay-among f m l j = record { size = s.size; same = λ h p k g. s.same h p k (λ x y. g (omega arith) (omega arith)) }

  pub rows-stay-wide : (m : ℕ) → n ≤ m → RowsStay first m a b
  rows-stay-wide m l = rows-stay-among first m (omega arith) (omega arith)

  pub rows-stay-on : {c : List ℕ} → RowsStay first n b c → RowsStay first n a c
  rows-stay-on t = record { size = t.size ∙ s.size; same = λ h p k f. t.same h p k f ∙ s.same h p k f }

-- ---- a place of a part

-- place k of a part whose word is the same
pub obligation-same : (a b : List ℕ) (h part k : ℕ) → word b h (part_words * part + 1 + k) ≡ word a h (part_words * part + 1 + k) → row_obligation b h part k ≡ row_obligation a h part k
obligation-same a b h part k e = ap stored_in e

-- the words of a part of row h are the same
pub record PartSame (h part : ℕ) (a b : List ℕ) : Type 0 where
  pub same : (p : ℕ) → part_words * part ≤ p → p < part_words * part + part_words → word b h p ≡ word a h p

module _ {h part : ℕ} {a b : List ℕ} (s : PartSame h part a b) where
  pub count_same : row_count b h part ≡ row_count a h part
  count_same = s.same (part_words * part) (omega arith) (omega arith)

  pub place_same : (k : ℕ) → k < 8 → row_obligation b h part k ≡ row_obligation a h part k
  place_same k l = obligation-same a b h part k (s.same (part_words * part + 1 + k) (omega arith) (omega arith))

  pub set_same-law : row_count a h part ≤ 8 → row_set b h part ≡ row_set a h part
  set_same-law few = ap (listed (row_obligation b h part)) count_same ∙ listed_same (row_count a h part) (λ k l. place_same k (omega arith))

-- a part of another row, or of this one where other words are stored
pub part_stays : {i lo hi : ℕ} {a b : List ℕ} → Stays i lo hi a b → (h part : ℕ) → part < parts → ((p : ℕ) → part_words * part ≤ p → p < part_words * part + part_words → h ≡ i → lo ≤ p → p < hi → ⊥) → PartSame h part a b
part_stays s h part l f = record { same = λ p x y. s.same h p (omega arith) (f p x y) }

-- ---- a set

-- one more
pub set_next : {i part j : ℕ} {o : code.Obligation} {a b : List ℕ} → PutObligation i part j o a b → j < 8 → listed (row_obligation b i part) (j + 1) ≡ listed (row_obligation a i part) j ++ (o ∷ [])
set_next {j = j} p h = listed_next j (λ k l. p.others k (omega arith) (λ e. omega arith)) p.here refl

-- the count stored, after the others
module _ (a : List ℕ) (i part n : ℕ) (size : length a ≡ all_words) (row : i < height) (inside : part < parts) where
  abbrev counted : List ℕ
  counted = set a (width * i + part_words * part) n

  pub count-put : row_count counted i part ≡ n
  count-put = stored a i (part_words * part) n (omega arith)

  pub set-put : n ≤ 8 → row_set counted i part ≡ listed (row_obligation a i part) n
  set-put h =
      ap (listed (row_obligation counted i part)) count-put
      ∙ listed_same n (λ k l. obligation-same a counted i part k (stored_other a i (part_words * part) n i (part_words * part + 1 + k) (omega arith) (omega arith) (λ z e. omega arith)))

-- ---- all sets of a row

pub few-counts : (a b : List ℕ) (h : ℕ) → CountsSame h a b → FewInRow a h → FewInRow b h
few-counts a b h same few part l = rw (same part l) (few part l)

-- where the words before its leads are the same
module _ (a b : List ℕ) (h : ℕ) (same : (p : ℕ) → p < leads_part → word b h p ≡ word a h p) where
  pub counts-words : CountsSame h a b
  counts-words part l = same (part_words * part) (omega arith)

  pub few_words : FewInRow a h → FewInRow b h
  few_words few = few-counts a b h counts-words few

  pub set_words-law : (part : ℕ) → part < parts → row_count a h part ≤ 8 → row_set b h part ≡ row_set a h part
  set_words-law part l few = set_same-law {h = h} {part = part} {a = a} {b = b} (record { same = λ p x y. same p (omega arith) }) few

  pub nothing-words : NothingInParts a h → NothingInParts b h
  nothing-words n = record { places = λ part j l m k. same (part_words * part + 1 + j) (omega arith) ∙ n.places part j l (omega (arith, counts-words part l)) k }
