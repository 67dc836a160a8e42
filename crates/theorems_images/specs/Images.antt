-- What compile writes for an accepted pair, what a report tells of it, and what the reader of a tail returns.
use Rattle.std.specs.Prelude.{ℕ, ◌≤◌, ◌<◌, ◌+◌, ◌*◌, List, ◌++◌, ◌≡◌, true, ◌↔◌, ℤ, length, get_or, drop}
use Rattle.model.specs.Rules.Image.{codes, run_lists, offsets, lists_at, codes_at, image_of}
use Rattle.model.specs.Rules.Machine.{list_offset, code_offset, stated_length, code_of, well_formed}
use Rattle.model.specs.Rules.Program.{Program, count, signal_at}
use Rattle.model.specs.Rules.Schedule.{Schedule, phase_of}
use Rattle.model.specs.Rules.Compile.{verdict_of, compile_of}
use Rattle.model.specs.Rules.Outcome.{accepted, refused, refuse, fault}
use Rattle.model.specs.Rules.Report.{highest, counts_of, report_of}
use Rattle.model.specs.Rules.Tail.{tail_in, Bears, Tells}
use Rattle.theorems_images.specs.Height.{Within}
use Rattle.theorems_images.specs.Runs.{CycleRuns}
use Rattle.model.specs.declared.Fault.{Fault}

-- An offset that an image gives is the one of the layout, at most 65,535, and within the image.
pub record OffsetFits (image : List ℕ) (given layout : ℕ) : Type 0 where
  pub exact : given ≡ layout
  pub bound : given ≤ 65535
  pub inside : given ≤ length image

-- The code offsets of all signals, and the offsets of all run lists with the end of the last.
pub record OffsetsFit (p : Program) (s : Schedule) (h : ℕ) : Type 0 where
  pub code_offsets : (x : ℕ) → x < count p →
      OffsetFits (image_of p s h) (code_offset (image_of p s h) x) (get_or (offsets (codes_at p s h) (codes p)) x 0)
  pub list_offsets : (c : ℕ) → c ≤ h →
      OffsetFits (image_of p s h) (list_offset (image_of p s h) c) (get_or (offsets (lists_at (count p) h) (run_lists p s h)) c 0)

-- One image: compile writes it and after it its tail, four bytes a signal, answers the length of both and keeps the bytes past
-- that wherever there is space, and else answers 17 with that length. The image is well formed and at most 65,535 bytes long,
-- bytes 2-3 hold its own length L, all its offsets fit two bytes, and the working stack never passes 31. The tail tells the
-- label, period and phase of each signal.
pub record OneImage (program schedule : List ℕ) (p : Program) (s : Schedule) (h : ℕ) (image tail : List ℕ) : Type 0 where
  pub verdict : verdict_of program schedule ≡ accepted (image ++ tail)
  pub bound : length image ≤ 65535
  pub formed : well_formed image ≡ true
  pub stated : stated_length image ≡ length image
  pub bears : Bears image tail (image ++ tail)
  pub four : length tail ≡ 4 * count p
  pub tells : (x : ℕ) → x < count p → Tells tail x (signal_at p x) (phase_of s x)
  pub offsets : OffsetsFit p s h
  pub stack : (x : ℕ) → x < count p → Within 31 (code_of image x) 0 0
  pub written : (buffer : List ℕ) → length image + 4 * count p ≤ length buffer →
      compile_of program schedule buffer ≡
      record {
        answer = accepted (length image + 4 * count p);
        left = image ++ tail ++ drop (length image + 4 * count p) buffer;
      }
  pub space : (buffer : List ℕ) → length buffer < length image + 4 * count p →
      compile_of program schedule buffer ≡ record { answer = refuse 17 (length image + 4 * count p); left = buffer }

-- Of an accepted pair it tells L, the length of its image, and L + 4N, that with its tail; the least number of words that the
-- code of every signal keeps within on the image's bytes; and 240 counts, those of the hypercycle being the commands that a cycle
-- at that position runs, whatever words it is lent, and the others 0.
pub record Reports (program schedule : List ℕ) (p : Program) (s : Schedule) (h : ℕ) (image : List ℕ) : Type 0 where
  pub told : (counts : List ℕ) → report_of program schedule counts ≡
      record {
        answer = accepted (record { length = length image; written = length image + 4 * count p; stack = highest p.signals });
        left = counts_of p s h;
      }
  pub stack : (m : ℕ) → ((x : ℕ) → x < count p → Within m (code_of image x) 0 0) ↔ (highest p.signals ≤ m)
  pub size : length (counts_of p s h) ≡ 240
  pub counted : (c : ℕ) → c < h → (n : ℕ) (state samples left : List ℤ) → CycleRuns image c state samples n left →
      get_or (counts_of p s h) c 0 ≡ n
  pub past : (c : ℕ) → h ≤ c → c < 240 → get_or (counts_of p s h) c 0 ≡ 0

pub record TailExactly (lent : List ℕ) : Type 0 where
  pub returns : (tail : List ℕ) →
      (tail_in lent ≡ accepted tail) ↔ ((image : List ℕ) × (well_formed image ≡ true) × Bears image tail lent)
  pub refuses : (tail_in lent ≡ refuse 20 0) ↔ ((image tail : List ℕ) → well_formed image ≡ true → Bears image tail lent → ⊥)
  pub alone : (f : Fault) → tail_in lent ≡ refused f → f ≡ fault 20 0
