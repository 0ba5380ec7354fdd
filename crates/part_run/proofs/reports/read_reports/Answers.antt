-- One report more is read.
use Rattle.std.proofs.Common.{◌≡◌, ◌∙◌, ◌<◌, ◌+◌, ◌++◌, ◌∷◌, [], ℕ, List, length, map, string_bytes, get_or, ap, arith, sym, subst}
use Rattle.std.specs.Prelude.{Vec}
use Rattle.std.specs.declared.alloc.Global.{Global}
use Rattle.std.proofs.lemmas.List.{get_or-map, length-map, map_push}
use Rattle.report_check.specs.Findings.{lists_of}
use Rattle.part_run.proofs.ReadTexts.{AreReadTo, all_texts, in_order_to, none_opened, none_read, opened_more, read_more, stuck_here}
use Rattle.part_run.proofs.reports.read_reports.Goals as goal

pub returns-in-Err : goal.returns-in-Err
returns-in-Err g c =
    let f = g.F.Files in
    let names = map string_bytes c.args.names.now in
    record {
      files = in_order_to f.asked f.came f.told names 0 c.args.files.now c.args.files.now (none_opened f.asked f.came f.told names c.args.files.now);
      ok = tt;
      stopped = tt;
    }

pub loop-i-init : goal.loop-i-init
loop-i-init g c =
    let f = g.F.Files in
    let names = map string_bytes c.args.names.now in
    let files = c.args.files.now in
    record {
      room = c.in-Ok.ensures.exact;
      read = subst (λ (texts : List (Vec ℕ Global)). AreReadTo f.asked f.came f.told names 0 files files (lists_of texts)) (sym c.in-Ok.ensures.items) (none_read f.asked f.came f.told names files);
    }

pub loop-i-preserved : goal.loop-i-preserved
loop-i-preserved g c =
    let f = g.F.Files in
    let names = map string_bytes c.args.names.now in
    let start = c.args.files.now in
    let mid = c.loop-i.files in
    let new = c.read_report.new.files in
    let texts = c.loop-i.texts.items in
    let text = c.in-Ok-read_report.text in
    let name = c.as_str.result.now in
    let i = c.loop-i.i in
    let inv = c.loop-i.invariant in
    let read = c.in-Ok-read_report.ensures in
    let inside : i < length names = omega (arith, c.loop-i-test.true, length-map c.args.names.now string_bytes) in
    let at : get_or names i [] ≡ name = get_or-map string_bytes c.args.names.now i c.index-names-i.result [] c.loop-i-test.true ∙ ap string_bytes (sym c.index-names-i.is) ∙ sym c.as_str.ensures.value in
    let more : lists_of c.push_reserved.new.self.items ≡ lists_of texts ++ text.items ∷ [] = ap (map (λ (v : Vec ℕ Global). v.items)) c.push_reserved.ensures.items ∙ map_push (λ (v : Vec ℕ Global). v.items) texts text in
    record {
      room = c.push_reserved.ensures.capacity ∙ inv.room;
      read = subst (λ (all : List (List ℕ)). AreReadTo f.asked f.came f.told names (i + 1) start new all) (sym more)
          (read_more f.asked f.came f.told names i name inside at start mid new (inv.read).opened read.opened (read.ends).files (lists_of texts) inv.read text.items (read.ends).ok);
    }

pub returns-in-Err-read_report : goal.returns-in-Err-read_report
returns-in-Err-read_report g c =
    let f = g.F.Files in
    let names = map string_bytes c.args.names.now in
    let start = c.args.files.now in
    let mid = c.loop-i.files in
    let new = c.read_report.new.files in
    let name = c.as_str.result.now in
    let i = c.loop-i.i in
    let inv = c.loop-i.invariant in
    let read = c.in-Err-read_report.ensures in
    let inside : i < length names = omega (arith, c.loop-i-test.true, length-map c.args.names.now string_bytes) in
    let at : get_or names i [] ≡ name = get_or-map string_bytes c.args.names.now i c.index-names-i.result [] c.loop-i-test.true ∙ ap string_bytes (sym c.index-names-i.is) ∙ sym c.as_str.ensures.value in
    record {
      files = in_order_to f.asked f.came f.told names (i + 1) start new (opened_more f.asked f.came f.told names i name inside at start mid new (inv.read).opened read.opened (read.ends).files);
      ok = tt;
      stopped = stuck_here f.asked f.came f.told names i name inside at start mid new (inv.read).opened read.opened (read.ends).files (lists_of c.loop-i.texts.items) inv.read c.in-Err-read_report.fault (read.ends).stopped;
    }

pub returns : goal.returns
returns g c =
    let f = g.F.Files in
    let names = map string_bytes c.args.names.now in
    let i = c.loop-i.i in
    let inv = c.loop-i.invariant in
    record {
      files = in_order_to f.asked f.came f.told names i c.args.files.now c.loop-i.files (inv.read).opened;
      ok = all_texts f.asked f.came f.told names i c.args.files.now c.loop-i.files (lists_of c.loop-i.texts.items) (omega (arith, c.loop-i-test.false, c.loop-i.auto.i-end, length-map c.args.names.now string_bytes)) inv.read;
      stopped = tt;
    }
