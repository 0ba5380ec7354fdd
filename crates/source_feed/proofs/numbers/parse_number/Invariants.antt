-- The digits so far spell the number so far.
use Rattle.std.proofs.Common.{◌≡◌, ◌<◌, ◌^◌, take, true}
use Rattle.std.specs.List.{list_all}
use Rattle.stream_base.specs.Model.Journals.{number_in}
use Rattle.std.specs.Char.{is_ascii_digit}
use Rattle.source_feed.proofs.numbers.parse_number.Given as goal

abbrev pub invariant-digits : goal.invariant-digits
invariant-digits l =
    (l.number < 10 ^ l.digit-index)
    × (list_all is_ascii_digit (take l.digit-index l.text) ≡ true)
    × (l.number ≡ number_in (take l.digit-index l.text))
