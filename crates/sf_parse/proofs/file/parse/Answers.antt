use Rattle.std.proofs.Common.{map}
use Rattle.sf_ast.specs.View.{item_of}
use Rattle.sf_base.proofs.Decisions.{decides}
use Rattle.sf_parse.specs.declared.fault.ParseFault.TheVariants.{OutOfMemory}
use Rattle.sf_parse.specs.Parsing.{IsFile, IsFault}
use Rattle.sf_parse.proofs.Closing.{each_file_is_one}
use Rattle.sf_parse.proofs.Machine.Faults.{faults_once, files_without_fault}
use Rattle.sf_parse.proofs.file.parse.Goals as goal

pub returns : goal.returns
returns c =
    let end = c.args.tokens.now.end in
    let ts = c.args.tokens.now.items.items in
    decides c.read.result (λ v. map item_of v.items.items) (IsFile ts) (IsFault end ts) OutOfMemory (each_file_is_one ts) (faults_once end ts) (files_without_fault end ts)
    (rw c.as_slice.ensures.value at c.read.ensures.found) (rw c.as_slice.ensures.value at c.read.ensures.refused)
