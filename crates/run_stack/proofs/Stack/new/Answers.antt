-- `run_stack::Stack::new` meets its contract. Assumes nothing.
use mathlib.Core.Path.{refl}
use Rattle.run_stack.specs.View.{view_of}
use Rattle.run_stack.proofs.Stack.new.Goals as goal

pub returns : goal.returns
unfolding view_of
returns c = (refl, refl)
