-- The report is read, and behind it the sources.
use Rattle.std.proofs.Common.{ℕ, ap, inl, inr, refl, subst, sym}
use Rattle.std.specs.Prelude.{Vec}
use Rattle.std.specs.declared.alloc.Global.{Global}
use Rattle.run_inputs.specs.Causes.{StopsAtSources}
use Rattle.run_inputs.specs.Judging.{IsFoundBehind, IsFoundIn, IsReportRead, StopsAtReport, StopsBehindDefs}
use Rattle.run_inputs.specs.Outside.{opens_of}
use Rattle.command_words.specs.Words.{Check}
use Rattle.run_inputs.proofs.Endings.{ends_at, ends_behind, report_as}
use Rattle.run_inputs.proofs.judging.find_behind.Goals as goal

pub returns-in-Err : goal.returns-in-Err
returns-in-Err g c =
    let f = g.F.Files in
    let own = c.args.command.now in
    let d = c.args.defs.now in
    let is = ap (λ (k : Check). k.report) c.command.view_is in
    ends_at f.asked f.came f.told (λ opens (text : Vec ℕ Global). IsReportRead opens text.items) (StopsAtReport c.command.inside.report.now) (IsFoundBehind own d) (StopsBehindDefs own d)
    c.command.inside.report.now own.report is own.sources c.args.files.now c.read_report.new.files c.in-Err.fault c.in-Err.ensures
    (λ s. inl (subst (λ n. StopsAtReport n (opens_of f.asked f.came c.args.files.now c.read_report.new.files) c.in-Err.fault) is s))

pub returns-in-Ok : goal.returns-in-Ok
returns-in-Ok g c =
    let f = g.F.Files in
    let own = c.args.command.now in
    let old = c.args.files.now in
    let mid = c.read_report.new.files in
    let new = c.find_in.new.files in
    let d = c.args.defs.now in
    let text = c.deref.result.now in
    let opens = opens_of f.asked f.came old new in
    ends_behind f.asked f.came f.told (λ opens (text : Vec ℕ Global). IsReportRead opens text.items) (StopsAtReport c.command.inside.report.now) (IsFoundBehind own d) (StopsBehindDefs own d)
    c.command.inside.report.now own.report (ap (λ (k : Check). k.report) c.command.view_is) own.sources old mid new c.in-Ok.text c.find_in.result (IsFoundIn own d text) (StopsAtSources own.sources 0 d)
    c.in-Ok.ensures c.find_in.ensures
    (λ stays read finding found. record { text = text; report = subst (IsReportRead opens) (sym c.deref.ensures.value) (report_as (opens_of f.asked f.came old mid) opens c.in-Ok.text.items refl stays read); found_in = found })
    (λ stays read fault cause. inr record { text = text; report = subst (IsReportRead opens) (sym c.deref.ensures.value) (report_as (opens_of f.asked f.came old mid) opens c.in-Ok.text.items refl stays read); cause = cause })
