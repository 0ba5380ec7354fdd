-- The bytes are UTF-8 exactly where the test says so.
use Rattle.std.proofs.Common.{refl}
use Rattle.std.proofs.lemmas.Bool.{false≢true}
use Rattle.std.proofs.lemmas.Str.{is_utf8-from_IsUtf8}
use Rattle.window_defs.proofs.TableFacts.{no_document}
use Rattle.window_defs.proofs.read.document.Goals as goal

pub returns-in-Ok : goal.returns-in-Ok
returns-in-Ok c =
    let spelt = is_utf8-from_IsUtf8 c.args.bytes.now c.in-Ok.ensures.ok.0 in
    rw (spelt, c.in-Ok.ensures.ok.1) refl

pub returns-else-is_memory : goal.returns-else-is_memory
returns-else-is_memory c =
    rw (no_document c.args.bytes.now (c.in-Err.ensures.refused (λ m. false≢true (rw c.if-is_memory.false at (c.is_memory.ensures.1 m))))) refl
