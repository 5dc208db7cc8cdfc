-- With no room for the buffers nothing is read; else the reads are served.
use Rattle.std.proofs.Common.{sym, ◌∙◌}
use Rattle.line_server.proofs.Ends.{whole-from_Serves, Serves-memory, fault_of-err}
use Rattle.line_server.proofs.serving.serve.Goals as goal

pub returns-in_default-clause-served : goal.returns-in_default-clause-served
returns-in_default-clause-served g c =
    Serves-memory g.S.Session.exchange c.args.session.now (g.R.Read.remaining c.args.reader.now) (g.W.Write.contents c.args.writer.now)

pub returns-clause-served : goal.returns-clause-served
returns-clause-served g c =
    rw (c.err.ensures.value, ← fault_of-err c.serve_reads-served.result) c.serve_reads-served.ensures

pub returns-clause-whole : goal.returns-clause-whole
returns-clause-whole g c = λ input before left held none unrefused.
    whole-from_Serves g.S.Session.exchange c.args.session.now c.serve_reads-served.new.session _ _ _ _ _ input before c.serve_reads-served.ensures left held (fault_of-err c.serve_reads-served.result ∙ sym c.err.ensures.value ∙ none) unrefused
