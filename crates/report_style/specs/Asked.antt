-- The style that the options of a command ask for (this project).
use Rattle.std.specs.Prelude.{if◌then◌else◌}
use Rattle.report_style.specs.declared.styles.Asked.{Asked}
use Rattle.report_style.specs.declared.styles.Notation.TheVariants.{San, Coordinates}
use Rattle.report_style.specs.declared.styles.Style.{Style}
use Rattle.report_style.specs.declared.styles.Style.TheVariants.{Blocks, Json}

-- how a report is printed, by what the options ask of it
abbrev pub style_asked : Asked → Style
style_asked asked =
    if asked.json then Json (record { certs = asked.certs; fens = asked.fens })
    else Blocks (record { certs = asked.certs; notation = if asked.san then San else Coordinates })
