use Rattle.sv_app.proofs.Trees.{if_is, rows_is, each_is}
use Rattle.sv_app.proofs.parts.parts_of.Goals as goal

pub returns-in-If : goal.returns-in-If
returns-in-If c = rw (c.deref-in-If.ensures.value, c.deref-in-If-2.ensures.value) (if_is _ _ _ _ c.in-If.is)

pub returns-in-Rows : goal.returns-in-Rows
returns-in-Rows c = rw (c.deref-in-Rows.ensures.value) (rows_is _ _ _ _ _ c.in-Rows.is)

pub returns-in-Each : goal.returns-in-Each
returns-in-Each c = rw (c.deref-in-Each.ensures.value) (each_is _ _ _ _ c.in-Each.is)
