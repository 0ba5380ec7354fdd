use Rattle.stream_base.proofs.Rising.{nat_rising_increases, nat_rising_members, key_rising_is_sorted, key_rising_members}
use Rattle.model_laws.proofs.kept.rising_lists_each_element_once.Goals as goal

pub returns-clause-numbers_rise : goal.returns-clause-numbers_rise
returns-clause-numbers_rise c = nat_rising_increases

pub returns-clause-numbers_stay : goal.returns-clause-numbers_stay
returns-clause-numbers_stay c = nat_rising_members

pub returns-clause-keys_rise : goal.returns-clause-keys_rise
returns-clause-keys_rise c = key_rising_is_sorted

pub returns-clause-keys_stay : goal.returns-clause-keys_stay
returns-clause-keys_stay c = key_rising_members
