-- A version's words are put. Assumes nothing.
use Rattle.port.proofs.Giving.{version_words_lem}
use Rattle.port.proofs.VersionWords.put.Goals as goal

pub returns : goal.returns
returns c = version_words_lem c.args.self _ c.requires c.put_stamp.ensures c.put_pointer.ensures
