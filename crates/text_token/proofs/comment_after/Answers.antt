-- `text_token::comment_after` meets its contract. Assumes nothing.
use Rattle.text_token.proofs.Scans.{comment-in, comment-out}
use Rattle.text_token.proofs.comment_after.Goals as goal

pub returns-then-comment : goal.returns-then-comment
returns-then-comment c = rw c.if-comment.true (comment-in c.args.b)

pub returns : goal.returns
returns c = rw c.if-comment.false (comment-out c.args.b)
