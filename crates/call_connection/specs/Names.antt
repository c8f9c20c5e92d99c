-- How a call names a connection, as its code has it.
use Rattle.meaning.specs.Header.{Name, by_vci, by_vpi}
use Rattle.call_connection.specs.declared.Name as code
use Rattle.call_connection.specs.declared.Name.TheVariants.{Vc, Path}

abbrev pub name_of : code.Name → Name
name_of (Vc vci) = by_vci vci
name_of (Path vpi) = by_vpi vpi
