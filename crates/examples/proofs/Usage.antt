-- The table of processor use, computed.
use mathlib.Core.Path.{◌≡◌, refl}
use mathlib.Core.Bool.{true}
use Rattle.base.specs.Same.{same}
use Rattle.base.specs.Examples.{agree}
use Rattle.sector.specs.Places.{next_place, blocks_in}
use Rattle.sector.specs.Seal.{sums, is_sealed}
use Rattle.record.specs.Kinds.{numbered}
use Rattle.record.specs.Record.{used_by, has_form}
use Rattle.block.specs.Block.{block_of, body_of, parts_of, read_of, is_block, records_in, all_form}
use Rattle.rule.specs.Refusals.{start_refusal}
use Rattle.rule.specs.Rule.{start_reply}
use Rattle.rule.specs.Requests.{request_of, start_on, served, halted_by}
use Rattle.rule.proofs.Computes.{computes}
use Rattle.events.specs.Replay.{reply_to, after, after_all, read_at, is_read, onward, block_left, left_by, beginning}
use Rattle.events.specs.Events.{events_of, block_events, events_to, events}
use Rattle.events.specs.Deeds.{is_call, does, runs, is_report, charges}
use Rattle.summary.specs.Words.{digits, words_of}
use Rattle.summary.specs.Block.{body_of as countBody, summary_block}
use Rattle.usage.specs.Usage.{charged_by, ticks_in, count_at, first_refusal, events_between, usage_of}
use Rattle.examples.specs.Usage.{began, again, used, asked, usage_table}

unfoldable parts : Unit {0}
unfolding same sums is_sealed numbered used_by has_form block_of body_of parts_of read_of is_block records_in all_form
parts = tt

unfoldable starts : Unit {0}
unfolding start_refusal start_reply request_of
starts = tt

unfoldable replays : Unit {0}
unfolding start_on served halted_by reply_to after after_all read_at is_read next_place onward block_left left_by blocks_in beginning
replays = tt

unfoldable counted : Unit {0}
unfolding events_of block_events events_to events is_call does runs is_report charges charged_by ticks_in count_at first_refusal
    events_between
    usage_of
counted = tt

unfoldable written : Unit {0}
unfolding digits words_of countBody summary_block began again used asked
written = tt

pub usage-holds : agree usage_table ≡ true
unfolding computes parts starts replays counted written agree usage_table
usage-holds = refl
