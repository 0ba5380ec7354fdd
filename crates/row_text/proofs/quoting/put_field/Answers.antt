-- The field in one's own words is csv's.
use Rattle.std.proofs.Common.{◌≡◌, ◌++◌, ℕ, List, OnOk, subst}
use Rattle.row_text.proofs.Quotes.{field_is}
use Rattle.row_text.proofs.quoting.put_field.Goals as goal

pub returns : goal.returns
returns c =
    subst (λ (t : List ℕ). OnOk c.put_plain_or_quoted.result (c.put_plain_or_quoted.new.out.items ≡ c.args.out.now.items ++ t)) (field_is c.args.bytes.now) c.put_plain_or_quoted.ensures
