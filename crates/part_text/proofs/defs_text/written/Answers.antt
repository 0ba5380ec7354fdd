-- The numbers, and then the windows.
use Rattle.std.proofs.Common.{◌≡◌, ◌∙◌, ◌++◌, ap}
use Rattle.std.specs.List.{flat_map}
use Rattle.part_text.specs.DefinitionsText.{numbers_text, window_text}
use Rattle.part_text.proofs.TextParts.{two_parts}
use Rattle.part_text.proofs.defs_text.written.Goals as goal

pub returns : goal.returns
returns c =
    let d = c.args.defs.now in
    let start = c.new-text.result.items in
    let middle = c.put_numbers.new.text.items in
    let last = c.put_windows.new.text.items in
    let first : middle ≡ start ++ numbers_text c.lateness.result 0 c.disorder.result = c.in_ok-put_numbers.ensures in
    let second : last ≡ middle ++ flat_map window_text c.windows.result.now = c.in_ok-put_windows.ensures in
    two_parts start middle last (numbers_text d.lateness 0 d.disorder) (flat_map window_text d.windows) c.new-text.ensures.items
    (first ∙ ap (λ n. start ++ numbers_text n 0 c.disorder.result) c.lateness.ensures.value ∙ ap (λ n. start ++ numbers_text d.lateness 0 n) c.disorder.ensures.value)
    (second ∙ ap (λ ws. middle ++ flat_map window_text ws) c.windows.ensures.value)
