use Rattle.sf_cli.proofs.Rankings.{ranking-one}
use Rattle.sf_cli.proofs.laws.each_ranking_has_one_answer.Goals as goal

pub returns : goal.returns
returns c =
    ranking-one c.each_file_is_decided.ensures c.each_file_is_shallow.ensures c.elaborated_is_formed.ensures
    c.each_program_is_ordered.ensures c.resources_are_listed_once.ensures
