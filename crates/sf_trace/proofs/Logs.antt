-- The law of logs, under the name of its function in src/laws.rt.
use Rattle.sf_trace.specs.Checked.Laws.{LogsCompose}
use Rattle.sf_trace.specs.Checked.Lemmas.Logs.{log-append}

pub logs_compose : LogsCompose
unfolding LogsCompose
logs_compose p events more c d e log others one two rise =
    log-append p events more c d e log others one two rise
