-- The rows of document 01's 'Programs': one statement, by computation. Assumes nothing.
use Rattle.std.specs.Prelude.{◌≡◌, refl, pos, negsuc}
use Rattle.records.specs.Word.{unsigned}
use Rattle.tesl.specs.Answer.{exhausted, broken, holding, clear, owed}
use Rattle.text.specs.Text.{ascii, digits, line, answer_line, refusal_line, cents, hundredths, column_line}

pub record TextExamples : Type 0 where
  -- the listing of *watch*, a number of several digits, and exhausted
  answers :
      (answer_line 1 (holding 1 owed) ≡ ascii "1 holding 1 owed\n")
      × (answer_line 2 (holding 2 owed) ≡ ascii "2 holding 2 owed\n")
      × (answer_line 3 (holding 2 clear) ≡ ascii "3 holding 2 clear\n")
      × (answer_line 4 (holding 1 clear) ≡ ascii "4 holding 1 clear\n")
      × (answer_line 5 broken ≡ ascii "5 broken 0 -\n")
      × (answer_line 4000 exhausted ≡ ascii "4000 exhausted 0 -\n")
  refusal : refusal_line 12 ≡ ascii "refused 12\n"
  -- *columns*: -3, 0, 1, both ends and -1
  columns :
      (column_line (negsuc 2) ≡ ascii "65533 -0.03\n")
      × (column_line (pos 0) ≡ ascii "0 0.00\n")
      × (column_line (pos 1) ≡ ascii "1 0.01\n")
      × (column_line (negsuc 32767) ≡ ascii "32768 -327.68\n")
      × (column_line (pos 32767) ≡ ascii "32767 327.67\n")
      × (column_line (negsuc 0) ≡ ascii "65535 -0.01\n")

pub text-examples : TextExamples
unfolding unsigned digits line cents hundredths
text-examples = record {
  answers = (refl, refl, refl, refl, refl, refl);
  refusal = refl;
  columns = (refl, refl, refl, refl, refl, refl);
}
