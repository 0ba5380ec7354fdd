pub mod ShardReports
