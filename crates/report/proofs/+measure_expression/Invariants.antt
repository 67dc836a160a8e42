use Rattle.report.proofs.+measure_expression.Given as goal

abbrev pub decreases-measure_expression : goal.decreases-measure_expression
decreases-measure_expression l = l.depth
