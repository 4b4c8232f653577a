-- What the check is given to prove the two functions that look at one pattern and not at a row.
-- Assumes nothing.
use Rattle.named.proofs.Storing.{handed}
use Rattle.pattern.proofs.Selectors.{absent, seeks_absent, seeks_found, seeks_full, nears_absent, nears_nested, nears_found, nears_full}
use Rattle.pattern.proofs.Memos.{known_missing}
use Rattle.pattern.proofs.Records.{name_found, name_missing, all_missing}

pub ruleset singles = (handed, absent, nears_absent, nears_nested, nears_found, nears_full, name_found, name_missing, all_missing)

pub ruleset entries = (handed, known_missing, absent, seeks_absent, seeks_found, seeks_full, name_found, name_missing, all_missing)
