-- `text_program::chain_step` meets its contract. Assumes nothing.
use mathlib.Core.Path.{◌≡◌, ◌∙◌}
use mathlib.Core.List.{[]}
use Prim.Native.Nat.{◌+◌}
use Rattle.model.specs.Rules.Program.{parse_links}
use Rattle.text_program.specs.Results.{links_of}
use Rattle.text_program.proofs.Parts.{chain-short, chain_next, chain-refused}
use Rattle.std.proofs.lemmas.Result.{err_from_is_err_and}
use Rattle.text_program.proofs.chain_step.Goals as goal
use Rattle.text_program.proofs.chain_step.Goals.{After-read_links, Start}

-- the LINKs
module _ (c : After-read_links) where
  abbrev start : Start
  start = (goal.at.After-read_links c).Start

  links : c.read_links.result ≡ links_of (parse_links 16 start.args.text.now (start.args.walk.at + 4) [])
  links = rw c.in_program.ensures at c.read_links.ensures

pub returns-in_err-links : goal.returns-in_err-links
returns-in_err-links c =
    let p = err_from_is_err_and c.from_residual.result c.from_residual.ensures.1 in
    rw (p.1, p.2)
    (chain-refused _ _ _ _ _ (links (goal.at.returns-in_err-links c).After-read_links) c.in_err-links.was)

pub returns-then-links-lt2 : goal.returns-then-links-lt2
returns-then-links-lt2 c =
    c.refuse.ensures ∙
    chain-short _ _ _ _ _ (links (goal.at.returns-then-links-lt2 c).After-read_links) c.in_ok-links.was
    c.if-links-lt2.true

pub returns : goal.returns
returns c =
    c.adds.ensures ∙
    chain_next _ _ _ _ _ (links (goal.at.returns c).After-read_links) c.in_ok-links.was
    c.if-links-lt2.false
