use Rattle.std.proofs.Common.{rules}
use Rattle.unit_lines.proofs.Endings.{text_of_line}
use Rattle.unit_lines.proofs.ending.line_text.Goals as goal

pub returns-clause-before_its_end : goal.returns-clause-before_its_end
returns-clause-before_its_end c = text_of_line _ _ (search rules)
