-- The answers of the readers of expressions and links, from the definitions' outcomes.
use Rattle.std.specs.Prelude.{Result, Ok, Err, ℕ, ◌+◌, cond, List, leb, ltb, length}
use Rattle.model.specs.Rules.Command.{is_signal}
use Rattle.model.specs.Rules.Outcome.{Outcome, accepted, refused, fault, Parsed}
use Rattle.model.specs.Rules.Program.{Link}
use Rattle.model.specs.Rules.Width.{in_program}
use Rattle.model.specs.Rules.Word.{byte_at}
use Rattle.model.specs.declared.Fault.{Fault}
use Rattle.text_program.specs.declared.Entry.TheVariants as Entry
use Rattle.text_program.specs.declared.LinksRead.{LinksRead}
use Rattle.text_program.specs.declared.Step.{Step}

-- How many LINKs a chain has, and where they end.
unfoldable pub links_of : Outcome (Parsed (List Link)) → Result LinksRead Fault
links_of (accepted x) = Ok (record { count = length x.value; next = x.next })
links_of (refused f) = Err f

-- The step of a LAT at `at`, from what follows it.
unfoldable pub chain_of : ℕ → ℕ → ℕ → ℕ → Outcome (Parsed (List Link)) → Result Step Fault
chain_of at count to looks (accepted x) =
    cond (leb 2 (length x.value))
    (Ok (Step.Adds (Entry.Chain (length x.value)) (record { at = x.next; reads = count; code = to; lookups = looks })))
    (Err (fault 5 at))
chain_of at count to looks (refused f) = Err f

-- The step of a TAG at `at`, by the byte after it.
unfoldable pub tag_of : List ℕ → ℕ → ℕ → ℕ → ℕ → ℕ → Result Step Fault
tag_of text at label count to looks =
    let next = at + in_program 0x15 in
    cond (ltb next (length text))
    (cond (is_signal (byte_at text next)) (Ok (Step.Adds (Entry.Label label)
    (record { at = next; reads = count; code = to; lookups = looks })))
    (Err (fault 3 at)))
    (Err (fault 2 (length text)))

-- The step of an END at `at`, which is the last byte.
unfoldable pub end_of : List ℕ → ℕ → Result Step Fault
end_of text at = let next = at + in_program 0x00 in cond (leb (length text) next) (Ok Step.End) (Err (fault 6 next))
