-- `text_program::read_command` meets its contract. Assumes nothing.
use Prim.Native.Nat.{ℕ, ◌<◌}
use mathlib.Core.List.{List}
use mathlib.Core.Path.{◌≡◌, refl, sym, subst, ◌∙◌}
use lib.ListN.{length}
use native.Mathlib.Omega.{arith}
use Rattle.model.specs.Rules.Command.{declaration_at}
use Rattle.model.specs.Rules.Outcome.{Outcome, accepted, refused}
use Rattle.model.specs.Rules.Program.{Program, declaration_here, declare}
use Rattle.model.specs.declared.Declaration.{Declaration}
use Rattle.model.specs.declared.Fault.{Fault}
use Rattle.basics.proofs.Judgements.{judgement-fine, judgement-refused}
use Rattle.text_program.specs.Steps.{Counts, Stepped}
use Rattle.text_program.specs.declared.Step.{Step}
use Rattle.text_program.proofs.Parts.{declaration-inside}
use Rattle.text_program.proofs.Steps.{
  step-stopped,
  step-refused,
  step_end,
  step-input,
  step-equation,
  step-chain,
  step-cap,
  step-tag,
  step_row,
}
use Rattle.std.specs.Prelude.{Result, Err}
use Rattle.std.proofs.lemmas.Result.{err_from_is_err_and}
use Rattle.text_program.proofs.read_command.Goals as goal
use Rattle.text_program.proofs.read_command.Goals.{After-declaration_at-declaration, Start}

-- where a command is known, and may stand
module _ (c : After-declaration_at-declaration) where
  abbrev start : Start
  start = (goal.at.After-declaration_at-declaration c).Start

  abbrev least : ℕ
  least = start.args.least

  abbrev text : List ℕ
  text = start.args.text.now

  abbrev at : ℕ
  at = start.args.walk.at

  abbrev HasSoFar : Program → Type 0
  HasSoFar p = Counts p start.args.tables.now

  abbrev Steps : List ℕ → Result Step Fault → Type 0
  Steps l r =
      (p : Program) (label : ℕ) → HasSoFar p →
      Stepped least text at label p start.args.reads.now start.args.walk.reads
      start.args.walk.code start.args.walk.lookups l r

  stands : (p : Program) → HasSoFar p → declaration_here text at p ≡ accepted tt
  stands p k =
      judgement-fine _ _ (c.declaration_here.ensures p k) c.in_ok-declaration_here.was

  module _ {k : Declaration} (e : c.declaration_at-declaration.result ≡ k) where
    is : declaration_at text at ≡ k
    is = sym c.declaration_at-declaration.ensures ∙ e

    inside : (Declaration.EndsEarly ≡ k → ⊥) → at < length text
    inside h = declaration-inside text at is h

    refuses : {f : Fault} {r : Result Step Fault} → r ≡ Err f →
        ((next : ℕ → ℕ → Program → Outcome Program) (label : ℕ) (p : Program) →
        declare least next text at label p k ≡ refused f) →
        Steps start.args.reads.now r
    refuses q h = λ p label n.
        subst (Stepped least text at label p _ _ _ _ _) (sym q)
        (step-refused least text at label p _ _ _ _ (stands p n) k _ is (λ next. h next label p))

pub returns-in_err-declaration_here : goal.returns-in_err-declaration_here
returns-in_err-declaration_here c = λ p label k.
    let q = err_from_is_err_and c.from_residual.result c.from_residual.ensures.1 in
    rw (q.1, q.2)
    (step-stopped _ _ _ label p _ _ _ _
    (judgement-refused _ _ _ (c.declaration_here.ensures p k) c.in_err-declaration_here.was))

pub end_step-requires : goal.end_step-requires
end_step-requires c =
    inside (goal.at.end_step-requires c).After-declaration_at-declaration c.in-End.is
    (λ e. let z : ◌≡◌ {A = ℕ} 0 1 = cc in omega arith)

pub input_step-requires : goal.input_step-requires
input_step-requires c =
    let b = (goal.at.input_step-requires c).After-declaration_at-declaration in
    let i = inside b c.in-Input.is (λ e. let z : ◌≡◌ {A = ℕ} 0 1 = cc in omega arith) in
    (omega (arith, i, (start b).requires.short), omega (arith, i, (start b).requires.short, (start b).requires.small))

pub equation_step-requires : goal.equation_step-requires
equation_step-requires c =
    let b = (goal.at.equation_step-requires c).After-declaration_at-declaration in
    (inside b c.in-Equation.is (λ e. let z : ◌≡◌ {A = ℕ} 0 1 = cc in omega arith), (start b).requires)

pub chain_step-requires : goal.chain_step-requires
chain_step-requires c =
    inside (goal.at.chain_step-requires c).After-declaration_at-declaration c.in-Latency.is
    (λ e. let z : ◌≡◌ {A = ℕ} 0 1 = cc in omega arith)

pub overflow_add-at : goal.overflow_add-at
overflow_add-at c =
    let b = (goal.at.overflow_add-at c).After-declaration_at-declaration in
    let i = inside b c.in-Cap.is (λ e. let z : ◌≡◌ {A = ℕ} 0 1 = cc in omega arith) in
    omega (arith, i, (start b).requires.short, (start b).requires.small)

pub overflow_add-at-in-Row : goal.overflow_add-at-in-Row
overflow_add-at-in-Row c =
    let b = (goal.at.overflow_add-at-in-Row c).After-declaration_at-declaration in
    let i = inside b c.in-Row.is (λ e. let z : ◌≡◌ {A = ℕ} 0 1 = cc in omega arith) in
    omega (arith, i, (start b).requires.short, (start b).requires.small)

pub tag_step-requires : goal.tag_step-requires
tag_step-requires c =
    inside (goal.at.tag_step-requires c).After-declaration_at-declaration c.in-Tag.is
    (λ e. let z : ◌≡◌ {A = ℕ} 0 1 = cc in omega arith)

pub returns-in-EndsEarly : goal.returns-in-EndsEarly
unfolding declare
returns-in-EndsEarly c =
    refuses (goal.at.returns-in-EndsEarly c).After-declaration_at-declaration c.in-EndsEarly.is c.refuse.ensures
    (λ next label p. refl)

pub returns-in-Unknown : goal.returns-in-Unknown
unfolding declare
returns-in-Unknown c =
    refuses (goal.at.returns-in-Unknown c).After-declaration_at-declaration c.in-Unknown.is c.refuse-in-Unknown.ensures
    (λ next label p. refl)

pub returns-in-OutOfRange : goal.returns-in-OutOfRange
unfolding declare
returns-in-OutOfRange c =
    refuses (goal.at.returns-in-OutOfRange c).After-declaration_at-declaration c.in-OutOfRange.is c.refuse-in-OutOfRange.ensures
    (λ next label p. refl)

pub returns-in-End : goal.returns-in-End
returns-in-End c = λ p label k.
    let b = (goal.at.returns-in-End c).After-declaration_at-declaration in
    subst (Stepped _ _ _ label p _ _ _ _ _) (sym c.end_step.ensures)
    (step_end _ _ _ label p _ _ _ _ (stands b p k) (is b c.in-End.is))

pub returns-in-Input : goal.returns-in-Input
returns-in-Input c = λ p label k.
    let b = (goal.at.returns-in-Input c).After-declaration_at-declaration in
    subst (Stepped _ _ _ label p _ _ _ _ _) (sym c.input_step.ensures)
    (step-input _ _ _ label p _ _ _ _ (stands b p k) _ _ (is b c.in-Input.is))

pub returns-in-Equation : goal.returns-in-Equation
returns-in-Equation c =
    λ p label k.
    let b = (goal.at.returns-in-Equation c).After-declaration_at-declaration in
    step-equation _ _ _ label p _ _ _ _ (stands b p k) _ _ _ (is b c.in-Equation.is)
    c.equation_step.ensures

pub returns-in-Latency : goal.returns-in-Latency
returns-in-Latency c = λ p label k.
    let b = (goal.at.returns-in-Latency c).After-declaration_at-declaration in
    subst (Stepped _ _ _ label p _ _ _ _ _) (sym c.chain_step.ensures)
    (step-chain _ _ _ label p _ _ _ _ (stands b p k) _ _ (is b c.in-Latency.is))

pub returns-in-Link : goal.returns-in-Link
unfolding declare
returns-in-Link c =
    refuses (goal.at.returns-in-Link c).After-declaration_at-declaration c.in-Link.is c.refuse-in-Link.ensures
    (λ next label p. refl)

pub returns-in-Cap : goal.returns-in-Cap
returns-in-Cap c = λ p label k.
    let b = (goal.at.returns-in-Cap c).After-declaration_at-declaration in
    subst (Stepped _ _ _ label p _ _ _ _ _) (sym (rw c.in_program.ensures at c.adds.ensures))
    (step-cap _ _ _ label p _ _ _ _ (stands b p k) _ (is b c.in-Cap.is))

pub returns-in-Tag : goal.returns-in-Tag
returns-in-Tag c = λ p label k.
    let b = (goal.at.returns-in-Tag c).After-declaration_at-declaration in
    subst (Stepped _ _ _ label p _ _ _ _ _) (sym c.tag_step.ensures)
    (step-tag _ _ _ label p _ _ _ _ (stands b p k) _ (is b c.in-Tag.is))

pub returns-in-Row : goal.returns-in-Row
returns-in-Row c = λ p label k.
    let b = (goal.at.returns-in-Row c).After-declaration_at-declaration in
    subst (Stepped _ _ _ label p _ _ _ _ _) (sym (rw c.in_program-in-Row.ensures at c.adds-in-Row.ensures))
    (step_row _ _ _ label p _ _ _ _ (stands b p k) _ _ _ (is b c.in-Row.is))
