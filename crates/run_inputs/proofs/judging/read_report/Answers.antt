-- What stops the reading of the report is told by the bytes that were read.
use Rattle.std.proofs.Common.{◌≡◌, ◌∙◌, ◌+◌, ℕ, length, ap, sym, subst, arith}
use Rattle.outside.specs.Outside.{KeepsWord, back}
use Rattle.std.specs.Prelude.{IfSome}
use Rattle.source_feed.specs.declared.whole.TheConstants.{SOURCE_MAX}
use Rattle.run_inputs.specs.Outside.{IsOver, opens_of}
use Rattle.run_inputs.proofs.Returned.{one_in_order}
use Rattle.run_inputs.proofs.WholeFiles.{IsReadSo, read_so, report_read, report_stop}
use Rattle.run_inputs.proofs.judging.read_report.Goals as goal

pub returns-in-Err : goal.returns-in-Err
returns-in-Err g c =
    let f = g.F.Files in
    let opened = c.open_file.ensures in
    let old = c.args.files.now in
    let new = c.open_file.new.self in
    let name = c.args.name.now in
    let refused = c.in-Err.ensures.refused in
    let here : length (f.asked old) + 0 ≡ length (f.asked old) = omega arith in
    record {
      opened = opened.asked;
      ends = record {
        files = one_in_order f.asked f.came f.told name old new opened.asked
            (subst (IsOver (f.told old name)) (sym refused) tt)
            (λ i l. opened.others i (λ e. omega (arith, e, l))) opened.same;
        ok = tt;
        stopped = (opened.asked, ap (f.came new) here ∙ refused);
      };
    }

pub returns-in-Ok : goal.returns-in-Ok
returns-in-Ok g c =
    let f = g.F.Files in
    let reads = g.F.Input.Source.reads in
    let word = g.F.Input.Source.told in
    let opened = c.open_file.ensures in
    let given = c.give_back.ensures in
    let read = c.read_whole-bytes in
    let old = c.args.files.now in
    let new = c.give_back.new.self in
    let name = c.args.name.now in
    let first = length (f.asked old) in
    let now = reads read.new.source in
    let opens = opens_of f.asked f.came old new in
    let asked = given.asked ∙ opened.asked in
    let place : now.place ≡ first = read.ensures.on.place ∙ ap (λ (r : _). r.place) c.in-Ok.ensures.fresh in
    let here : first + 0 ≡ first = omega arith in
    let back_at : f.came new first ≡ back now = ap (f.came new) (sym place) ∙ given.back in
    let came : f.came new (first + 0) ≡ back now = ap (f.came new) here ∙ back_at in
    let so = subst (λ (n : ℕ). IsReadSo SOURCE_MAX n read.result now) (sym here) (read_so SOURCE_MAX first read.result (reads c.in-Ok.source) now c.in-Ok.ensures.fresh read.ensures.whole read.ensures.too_long read.ensures.read) in
    record {
      opened = asked;
      ends = record {
        files = one_in_order f.asked f.came f.told name old new asked
            (subst (IsOver (f.told old name)) (sym back_at) (subst (λ t. IfSome t (KeepsWord now)) (read.ensures.told ∙ c.in-Ok.ensures.content) given.word))
            (λ i l. given.others i (λ e. omega (arith, e, l, place)) ∙ opened.others i (λ e. omega (arith, e, l)))
            (λ which. given.same which ∙ opened.same which);
        ok = report_read name opens asked now came read.result so c.text_of.result c.text_of.ensures.ok read.ensures.within;
        stopped = report_stop name opens asked now came read.result so c.text_of.result c.text_of.ensures.stopped;
      };
    }
