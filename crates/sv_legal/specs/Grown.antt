-- What one entry more does to what a site has and to where a session is, and the site at which it answers a session.
use Rattle.std.specs.Prelude.{ℕ, suc, ◌==◌, if◌then◌else◌, Option, Some, None}
use Rattle.sv_effect.specs.Cut.{Cut}
use Rattle.sv_core.specs.declared.entries.Entry.{Entry}
use Rattle.sv_core.specs.declared.entries.Entry.TheVariants.{Answer, Apply, Move}
use Rattle.sv_core.specs.History.{brings}

-- a cut with what an entry brings the site
abbrev pub with_brought : Entry → ℕ → Cut → Cut
with_brought e s cut o = if brings e s o then suc (cut o) else cut o

-- where a session is that was at the site before
abbrev pub site_behind : Entry → ℕ → ℕ → ℕ
site_behind (Answer session index request site at reply label packet) k before = before
site_behind (Apply site packet) k before = before
site_behind (Move session site) k before = if k == session then site else before

abbrev pub site_answered : Entry → ℕ → Option ℕ
site_answered (Answer session index request site at reply label packet) k = if k == session then Some site else None
site_answered (Apply site packet) k = None
site_answered (Move session site) k = None
