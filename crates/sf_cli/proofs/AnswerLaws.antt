-- Laws that follow from other laws of this crate alone, each under its function's name.
use Rattle.sf_cli.proofs.AnAnswer.{some-command}
use Rattle.sf_cli.proofs.DemoAnswers.{demo-some}
use Rattle.sf_cli.proofs.OneAnswer.{answer-command}
use Rattle.sf_cli.specs.Checked.Laws.{EachCommandHasAnAnswer, EachCommandHasOneAnswer, EachDemoHasAnAnswer, EachDemoHasOneAnswer, EachFileHasAnAnswer, EachFileHasOneAnswer, EachFileIsDecided, EachJournalHasAnAnswer, EachJournalHasOneAnswer, EachProofHasAnAnswer, EachProofHasOneAnswer, EachRunHasAnAnswer, EachRunHasOneAnswer, EachRankingHasAnAnswer, EachRankingHasOneAnswer, EachReplayHasAnAnswer, EachReplayHasOneAnswer, EachWitnessHasAnAnswer, EachWitnessHasOneAnswer}

pub each_demo_has_an_answer : EachFileHasAnAnswer → EachDemoHasAnAnswer
each_demo_has_an_answer = demo-some

pub each_command_has_an_answer : EachFileHasAnAnswer → EachProofHasAnAnswer → EachRunHasAnAnswer → EachDemoHasAnAnswer
    → EachRankingHasAnAnswer → EachReplayHasAnAnswer → EachWitnessHasAnAnswer → EachJournalHasAnAnswer
    → EachCommandHasAnAnswer
each_command_has_an_answer = some-command

pub each_command_has_one_answer : EachFileIsDecided → EachFileHasOneAnswer → EachProofHasOneAnswer
    → EachRunHasOneAnswer → EachDemoHasOneAnswer → EachRankingHasOneAnswer → EachReplayHasOneAnswer
    → EachWitnessHasOneAnswer → EachJournalHasOneAnswer → EachCommandHasOneAnswer
each_command_has_one_answer = answer-command
