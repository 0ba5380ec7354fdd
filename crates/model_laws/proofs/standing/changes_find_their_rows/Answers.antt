use Rattle.model_laws.proofs.Finding.{changes_find}
use Rattle.model_laws.proofs.standing.changes_find_their_rows.Goals as goal

pub returns : goal.returns
returns c = changes_find
