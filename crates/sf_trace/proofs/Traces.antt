-- The laws of traces, under the names of their functions in src/laws.rt.
use Rattle.sf_trace.specs.Checked.Laws.{RunsHaveTraces, TracesAreRuns, TracesAreUnique, TracesCompose}
use Rattle.sf_trace.specs.Checked.Lemmas.Traces.{trace-append, trace-of, trace-once, trace-run}

pub traces_are_runs : TracesAreRuns
unfolding TracesAreRuns
traces_are_runs p acts c d t = trace-run p acts c d t

pub runs_have_traces : RunsHaveTraces
unfolding RunsHaveTraces
runs_have_traces p events c d r = trace-of p events c d r

pub traces_are_unique : TracesAreUnique
unfolding TracesAreUnique
traces_are_unique p acts others c d e t u same = trace-once p acts others c d e t u same

pub traces_compose : TracesCompose
unfolding TracesCompose
traces_compose p acts more c d e t u = trace-append p acts more c d e t u
