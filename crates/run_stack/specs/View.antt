-- A stack as the list of its words, the top one first.
use Rattle.std.specs.Prelude.{ℕ, zero, suc, List, [], ◌∷◌, ◌++◌, get_or, ℤ, pos}
use Rattle.run_stack.specs.declared.Stack.{Stack}

-- The n words under the top one, the highest first.
unfoldable pub under : List ℤ → ℕ → List ℤ
under words zero = []
under words (suc n) = get_or words (suc n) (pos 0) ∷ under words n

-- The words of a stack of a height, by its top word and the words below.
unfoldable pub view_of : ℤ → List ℤ → ℕ → List ℤ
view_of top words zero = []
view_of top words (suc n) = top ∷ under words n

-- The words under the top: the near ones, then the far ones.
abbrev pub words_below : Stack → List ℤ
words_below stack = stack.near ++ stack.far

abbrev pub view : Stack → List ℤ
view stack = view_of stack.top (words_below stack) stack.height
