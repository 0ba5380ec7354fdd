-- The words are within their limits, so the journal can be followed.
use Rattle.std.proofs.Common.{◌≡◌, ◌∙◌, ◌<◌, ◌≤◌, ℕ, length, map, All, string_bytes, ap, subst, sym, arith}
use Rattle.std.proofs.lemmas.List.{length-map}
use Rattle.stream_base.specs.declared.entry.Entry.{Entry}
use Rattle.tail_text.specs.Texts.{tail_changes_in}
use Rattle.command_words.specs.LastWords.{LastRun}
use Rattle.run_inputs.proofs.Results.{if_ok}
use Rattle.scotty_run.proofs.tailing.tails_of_one.Goals as goal

pub tails_of-requires-clause-def : goal.tails_of-requires-clause-def
tails_of-requires-clause-def g c =
    let numbers = (c.command.invariant).numbers in
    record { some = numbers.some_tuples; few = numbers.few_tuples; period = numbers.some_time; short = numbers.short }

pub tails_of-requires-clause-lateness : goal.tails_of-requires-clause-lateness
tails_of-requires-clause-lateness g c = ((c.command.invariant).numbers).short_lateness

pub tails_of-requires-clause-sources : goal.tails_of-requires-clause-sources
tails_of-requires-clause-sources g c =
    let few = (c.command.invariant).few in
    let n : length (map string_bytes c.command.inside.sources.now) ≡ length c.command.inside.sources.now = length-map c.command.inside.sources.now string_bytes in
    let some = few.some_sources in
    let most = few.few_sources in
    record { some = omega (arith, n, some); few = omega (arith, n, most) }

pub tails_of-requires-clause-known : goal.tails_of-requires-clause-known
tails_of-requires-clause-known g c =
    let n : length (c.args.command.now).sources ≡ length c.command.inside.sources.now = sym (ap (λ (l : LastRun). length l.sources) c.command.view_is) ∙ length-map c.command.inside.sources.now string_bytes in
    subst (λ m. All (λ (e : Entry). e.source < m) c.args.shard.now.journal) n c.requires

pub returns : goal.returns
returns g c =
    let journal = c.args.shard.now.journal in
    let w = c.command.inside in
    let n : length w.sources.now ≡ length (map string_bytes w.sources.now) = sym (length-map w.sources.now string_bytes) in
    if_ok c.tails_of.result (λ tails. map (λ v. v.items) tails.items ≡ tail_changes_in w.tail w.lateness (length w.sources.now) journal)
    (λ tails. map (λ v. v.items) tails.items ≡ tail_changes_in (c.args.command.now).tail (c.args.command.now).lateness (length (c.args.command.now).sources) journal)
    c.tails_of.ensures.changes
    (λ tails h. h ∙ ap (λ (m : ℕ). tail_changes_in w.tail w.lateness m journal) n ∙ ap (λ (l : LastRun). tail_changes_in l.tail l.lateness (length l.sources) journal) c.command.view_is)
