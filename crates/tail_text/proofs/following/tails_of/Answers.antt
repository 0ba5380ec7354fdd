-- Each entry is followed behind those before it.
use Rattle.std.proofs.Common.{◌≡◌, ◌<◌, ◌≤◌, ◌++◌, length, map, take, true, ap, arith}
use Rattle.stream_base.specs.declared.entry.Entry.{Entry}
use Rattle.stream_base.specs.Model.Journals.{is_entry_within}
use Rattle.tail_text.specs.Texts.{tail_changes_in}
use Rattle.tail_text.proofs.FollowingFacts.{along_end, along_more, as_many, at_position, entry_time}
use Rattle.tail_text.proofs.following.tails_of.Goals as goal

pub loop-position-init : goal.loop-position-init
loop-position-init g c =
    let new = c.in_ok-tails.ensures in
    record {
      def_is = new.def;
      lateness_is = new.lateness;
      sources_are = new.sources;
      stands = new.stands;
      lists_are = ap (λ items. map (λ v. v.items) items ++ tail_changes_in c.args.def c.args.lateness c.args.sources c.args.shard.now.journal) c.new-lists.ensures.items;
    }

pub follow-requires-clause-source : goal.follow-requires-clause-source
follow-requires-clause-source g c =
    let own : c.entry_at-entry.result.source < c.args.sources = at_position (λ (e : Entry). e.source < c.args.sources) c.args.shard.now.journal c.loop-position.position c.entry_at-entry.result c.requires.known c.entry_at-entry.ensures in
    let are = c.loop-position.invariant.sources_are in
    omega (arith, own, are)

pub follow-requires-clause-time : goal.follow-requires-clause-time
follow-requires-clause-time g c =
    entry_time c.entry_at-entry.result
    (at_position (λ (e : Entry). is_entry_within e ≡ true) c.args.shard.now.journal c.loop-position.position c.entry_at-entry.result ((c.journal_len-position-end.ensures.journal).known).within c.entry_at-entry.ensures)

pub loop-position-preserved : goal.loop-position-preserved
loop-position-preserved g c =
    let journal = c.args.shard.now.journal in
    let position = c.loop-position.position in
    let along = c.loop-position.invariant in
    along_more c.args.def c.args.lateness c.args.sources journal position c.entry_at-entry.result c.loop-position.tails c.follow.new.tails
    (map (λ v. v.items) c.loop-position.lists.items) (map (λ v. v.items) c.follow.new.lists.items) along c.entry_at-entry.ensures
    (c.in_ok-follow.ensures (take position journal) along.stands)

pub returns-clause-changes : goal.returns-clause-changes
returns-clause-changes g c =
    let past : length c.args.shard.now.journal ≤ c.loop-position.position = omega arith in
    along_end c.args.def c.args.lateness c.args.sources c.args.shard.now.journal c.loop-position.position c.loop-position.tails (map (λ v. v.items) c.loop-position.lists.items) past c.loop-position.invariant

pub returns-clause-many : goal.returns-clause-many
returns-clause-many g c =
    let past : length c.args.shard.now.journal ≤ c.loop-position.position = omega arith in
    as_many c.args.def c.args.lateness c.args.sources c.args.shard.now.journal c.loop-position.lists.items
    (along_end c.args.def c.args.lateness c.args.sources c.args.shard.now.journal c.loop-position.position c.loop-position.tails (map (λ v. v.items) c.loop-position.lists.items) past c.loop-position.invariant)
