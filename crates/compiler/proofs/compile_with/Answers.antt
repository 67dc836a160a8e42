-- `compiler::compile_with` meets its contract. Assumes nothing.
use mathlib.Core.Path.{◌≡◌, ap, ◌∙◌}
use native.Mathlib.Omega.{arith}
use Rattle.model.specs.Rules.Compile.{Pair, pair_of}
use Rattle.model.specs.Rules.Outcome.{yielded_of, accepted}
use Rattle.image_write.specs.Layout.{LaidOut}
use Rattle.check_pair.specs.Checked.{Checks}
use Rattle.text_program.specs.Tables.{filled}
use Rattle.basics.proofs.Judgements.{answers-ok, answers-refused, handed-on}
use Rattle.compiler.proofs.Compiling.{compile-refused, compile-short, compile-done}
use Rattle.compiler.proofs.compile_with.Goals as goal
use Rattle.compiler.proofs.compile_with.Goals.{After-lay_out-layout, In_ok-check_tables}

-- the pair that the checks have accepted
pair : (e : In_ok-check_tables) → (q : Pair) × (pair_of e.args.program.now e.args.schedule.now ≡ accepted q) ×
    Checks e.args.program.now e.check_tables.new.reads e.check_tables.new.pair q
pair e = answers-ok _ _ _ _ e.check_tables.ensures (ap (filled _) e.in_ok-check_tables.was)

-- the layout of its image and tail
laid_out : (l : After-lay_out-layout) → let q = (pair (goal.at.After-lay_out-layout l).In_ok-check_tables).0 in
    LaidOut q.program q.schedule l.check_tables.new.pair.hypercycle l.lay_out-layout.result
laid_out l = l.lay_out-layout.ensures _ _ _ _ (pair (goal.at.After-lay_out-layout l).In_ok-check_tables).2.arranged

pub returns-in_err-check_tables : goal.returns-in_err-check_tables
returns-in_err-check_tables c =
    let g = compile-refused _ _ _ _ (answers-refused _ _ _ _ c.check_tables.ensures (ap (filled _) c.in_err-check_tables.was)) in
    (ap yielded_of (handed-on _ c.from_residual.ensures.1) ∙ g.0, g.1)

pub lay_out-layout-requires : goal.lay_out-layout-requires
lay_out-layout-requires c = (_, _, (_, _, (pair (goal.at.lay_out-layout-requires c).In_ok-check_tables).2.arranged))

pub returns-then-image-written : goal.returns-then-image-written
returns-then-image-written c =
    let l = (goal.at.returns-then-image-written c).After-lay_out-layout in
    let k = pair (goal.at.After-lay_out-layout l).In_ok-check_tables in
    let g = compile-short _ _ _ k.0 _ _ k.1 k.2.hyper (laid_out l).tail-ends c.if-image-written.true in
    (ap yielded_of c.refuse.ensures ∙ g.0, g.1)

pub emit-requires : goal.emit-requires
emit-requires c =
    let l = (goal.at.emit-requires c).After-lay_out-layout in
    record {
      reads = _;
      arrangement = (_, _, (pair (goal.at.After-lay_out-layout l).In_ok-check_tables).2.arranged);
      laid_out = laid_out l;
      room = omega (arith, c.if-image-written.false);
    }

pub returns : goal.returns
returns c =
    let l = (goal.at.returns c).After-lay_out-layout in
    let k = pair (goal.at.After-lay_out-layout l).In_ok-check_tables in
    compile-done _ _ _ k.0 _ _ k.1 k.2.hyper (laid_out l).tail-ends c.if-image-written.false
    (c.emit.ensures _ _ _ k.2.arranged)
