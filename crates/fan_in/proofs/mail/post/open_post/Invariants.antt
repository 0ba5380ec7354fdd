use Rattle.fan_in.specs.Posts.{IsPostOf}
use Rattle.fan_in.proofs.mail.post.open_post.Given as goal

abbrev pub invariant-loop-k : goal.invariant-loop-k
invariant-loop-k l = IsPostOf l.plan l.k l.post l.rows.items
