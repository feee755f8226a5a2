use Rattle.sv_report.proofs.replies.+put_counts.Given as goal

abbrev pub decreases-put_counts : goal.decreases-put_counts
decreases-put_counts l = l.many
