-- A bench trial as a whole (request e): the pair's verdict, then the script's, then a line for each cycle.
use Rattle.std.specs.Prelude.{ℕ, suc, List, [], ◌∷◌, ℤ, pos, take, drop, replicate}
use Rattle.model.specs.Says.Calls.{Call, call_of}
use Rattle.model.specs.Rules.Compile.{pair_of}
use Rattle.model.specs.Rules.Decimal.{line_of}
use Rattle.model.specs.Rules.Image.{image_of}
use Rattle.model.specs.Rules.Machine.{count_of, reset_of}
use Rattle.model.specs.Rules.Outcome.{Outcome, accepted, ◌▷◌}
use Rattle.model.specs.Rules.Script.{is_input_of, check_of, calls_of}

-- The signals of a state, words 1 to N.
abbrev pub signals_of : List ℕ → List ℤ → List ℤ
signals_of image state = take (count_of image) (drop 1 state)

-- One line after each call, numbered from j on: the state that it leaves.
unfoldable pub lines_from : List ℕ → ℕ → List ℤ → List Call → List (List ℕ)
lines_from image j state [] = []
lines_from image j state (c ∷ cs) =
    line_of j (signals_of image (call_of image state c).left) ∷ lines_from image (suc j) (call_of image state c).left cs

-- The state that a trial starts with: 65 words, reset.
abbrev pub start_of : List ℕ → List ℤ
start_of image = (reset_of image (replicate 65 (pos 0))).left

-- The lines that a trial prints, or the refusal whose number it prints.
unfoldable pub trial_of : List ℕ → List ℕ → List ℕ → Outcome (List (List ℕ))
trial_of program schedule text =
    pair_of program schedule ▷ λ q.  -- 1 to 16, 29, 30
    check_of (is_input_of q.program) text ▷ λ _.  -- 24, 25
    let image = image_of q.program q.schedule q.hypercycle in
    accepted (lines_from image 0 (start_of image) (calls_of text))
