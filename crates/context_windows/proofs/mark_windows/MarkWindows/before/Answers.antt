-- What is kept is the interval that holds the time, if it stands.
use Rattle.std.proofs.Common.{◌≡◌, ◌∙◌, refl, rules}
use Rattle.std.specs.Prelude.{option_to_list}
use Rattle.context_windows.specs.Marked.{asked_at}
use Rattle.context_windows.proofs.Stretching.{marks_remembered}
use Rattle.context_windows.proofs.mark_windows.MarkWindows.before.Goals as goal

pub returns-clause-remembers : goal.returns-clause-remembers
returns-clause-remembers g c = λ marks kept f le held.
    let is : option_to_list c.first_asked.result ≡ asked_at c.args.time c.args.water c.args.self.now.spans = search rules in
    marks_remembered c.args.func c.args.time c.args.water marks kept c.args.self.now _ (g.S.AggStore.stored c.args.store.now) c.requires.time f le held c.first_asked.result is c.ask-self-inside.result refl (λ is h. c.ask-self-inside.ensures.value is h ∙ search rules)
