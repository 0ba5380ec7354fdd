use Rattle.command_words.proofs.LastFacts.{one_last, tails_are_no_others}
use Rattle.command_words.proofs.WordFacts.{checks_are_no_others, one_check, one_made, one_run, one_watch, runs_are_not_made, watches_are_no_others}
use Rattle.command_words.proofs.words.commands_are_told_apart_by_their_words.Goals as goal

pub returns-clause-one_run : goal.returns-clause-one_run
returns-clause-one_run c = one_run

pub returns-clause-one_made : goal.returns-clause-one_made
returns-clause-one_made c = one_made

pub returns-clause-apart : goal.returns-clause-apart
returns-clause-apart c = runs_are_not_made

pub returns-clause-one_check : goal.returns-clause-one_check
returns-clause-one_check c = one_check

pub returns-clause-apart_from_checks : goal.returns-clause-apart_from_checks
returns-clause-apart_from_checks c = checks_are_no_others

pub returns-clause-one_watch : goal.returns-clause-one_watch
returns-clause-one_watch c = one_watch

pub returns-clause-apart_from_watches : goal.returns-clause-apart_from_watches
returns-clause-apart_from_watches c = watches_are_no_others

pub returns-clause-one_last : goal.returns-clause-one_last
returns-clause-one_last c = one_last

pub returns-clause-apart_from_tails : goal.returns-clause-apart_from_tails
returns-clause-apart_from_tails c = tails_are_no_others
