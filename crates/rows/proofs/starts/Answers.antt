-- `rows::starts` meets its contract. Assumes nothing.
use mathlib.Core.Path.{sym, ap, ◌∙◌}
use borrow.Author.Rules.{rules}
use mir.Facts.{to_z-of_z}
use Rattle.model.specs.Rules.Search.{is_found}
use Rattle.model.specs.Rules.Cover.{starting_at}
use Rattle.rows.specs.Rows.{text_rows}
use Rattle.rows.proofs.starts.Goals as goal

pub find_start-found-requires : goal.find_start-found-requires
find_start-found-requires c = search rules

pub enum_known-found : goal.enum_known-found
enum_known-found c = search rules

pub enum_told-1 : goal.enum_told-1
enum_told-1 c = search rules

pub returns-in-Some : goal.returns-in-Some
returns-in-Some c =
    let f = c in
    let s = c in
    ap is_found (sym c.in-Some.is ∙ f.find_start-found.ensures ∙ ap
    (starting_at (text_rows s.args.text.now s.args.offsets.now s.args.count)) (to_z-of_z s.ranges.edge))

pub returns-in-None : goal.returns-in-None
returns-in-None c =
    let f = c in
    let s = c in
    ap is_found (sym c.in-None.is ∙ f.find_start-found.ensures ∙ ap
    (starting_at (text_rows s.args.text.now s.args.offsets.now s.args.count)) (to_z-of_z s.ranges.edge))
