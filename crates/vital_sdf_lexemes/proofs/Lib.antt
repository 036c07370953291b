pub mod KeywordTables
