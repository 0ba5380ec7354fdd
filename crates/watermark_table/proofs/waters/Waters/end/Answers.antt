-- The source stands as after its entry, and the watermark follows.
use Rattle.std.proofs.Common.{◌≡◌, ◌∙◌, ◌∷◌, [], ◌++◌, List, rules}
use Rattle.stream_base.specs.declared.entry.Entry.{Entry}
use Rattle.watermark_table.specs.Standings.{standings_in}
use Rattle.watermark_table.specs.Watched.{StandsFor, end_entry, sources_of}
use Rattle.watermark_table.proofs.Tables.{ended_are, stands_after, water_is}
use Rattle.watermark_table.proofs.waters.Waters.end.Goals as goal

pub returns : goal.returns
returns c =
    let w = c.args.self.now in
    let told = end_entry c.args.source in
    let are : (journal : List Entry) → StandsFor w journal → c.put_standing.new.self.standings ≡ standings_in (sources_of w) (journal ++ told ∷ []) =
    λ journal s. c.put_standing.ensures.standings ∙ ended_are w journal c.args.source s in
    record {
      same = search rules;
      stands = λ journal s. stands_after w c.put_standing.new.self journal told s (are journal s) c.put_standing.ensures.water;
      water = λ journal s. c.put_standing.ensures.answer ∙ c.put_standing.ensures.water ∙ water_is w journal told c.put_standing.new.self.standings s (are journal s);
    }
